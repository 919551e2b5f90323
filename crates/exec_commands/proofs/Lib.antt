pub mod TextLemmas
pub mod ParamLemmas
pub mod ValueLemmas
pub mod LeaveLemmas
pub mod TwiceLemmas
pub mod ColonLemmas
pub mod MemberLemmas
pub mod CountLemmas
