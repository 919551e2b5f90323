pub mod ValueLemmas
pub mod ParamsLemmas
pub mod AroundLemmas
pub mod SortedLemmas
pub mod InsertLemmas
pub mod EncodingExamples
