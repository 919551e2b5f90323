-- Where agents are, by the options.
use Rattle.std.specs.Prelude.{option_map}
use Rattle.ocf_env.specs.Locations.{SiteView}
use Rattle.exec_options.specs.declared.once.OnceOptions.{OnceOptions}
use Rattle.exec_options.specs.declared.options.Options.{Options}

-- the site of these options
abbrev pub site_of : Options → SiteView
site_of o = record { root = o.root.now; path = o.path.now; via = option_map (λ s. s.now) o.via; meta = o.meta_variables }

-- the site of one action by itself
abbrev pub once_site_of : OnceOptions → SiteView
once_site_of o = record { root = o.root.now; path = o.path.now; via = option_map (λ s. s.now) o.via; meta = o.meta_variables }
