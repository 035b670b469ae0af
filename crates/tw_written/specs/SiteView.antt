-- The sites and spots of the theory that those of the program stand for.
use Rattle.std.specs.Prelude.{List, map, option_map}
use Rattle.lf_elaboration.specs.Sites as theory
use Rattle.tw_written.specs.View.{place_of}
use Rattle.tw_written.specs.declared.site.Site.{Site}
use Rattle.tw_written.specs.declared.site.Spot.{Spot}

abbrev pub site_of : Site → theory.Site
site_of s = record { at = record { line = s.line; column = s.column }; of = s.number }

abbrev pub spot_of : Spot → theory.Spot
spot_of s = record { at = option_map place_of s.at; count = s.count }

abbrev pub sites_of : List Site → List theory.Site
sites_of ss = map site_of ss

abbrev pub spots_of : List Spot → List theory.Spot
spots_of ss = map spot_of ss
