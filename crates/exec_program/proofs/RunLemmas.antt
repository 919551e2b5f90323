-- How a session begins.
use Rattle.std.proofs.Common.{ℕ, subst, sym}
use Rattle.ocf_env.specs.Locations.{SiteView}
use Rattle.child_model.specs.Children.{Admits, ChildrenView}
use Rattle.exec_host.specs.Asked.{AreFresh}

-- fresh agents start at any site
pub fresh_admits : (book : ℕ) (v : ChildrenView) (site : SiteView) → AreFresh book v → Admits v.site site
fresh_admits book v site fresh = subst (λ (x : ChildrenView). Admits x.site site) (sym fresh.1) tt
