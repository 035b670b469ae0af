use Rattle.std.proofs.Common.{◌≡◌, map, vec_len}
use Rattle.tw_terms.specs.View.{kind_of, type_of}
use Rattle.tw_recon.specs.Reading.{kind_of_types}
use Rattle.tw_recon.proofs.Domains.{kind_from}
use Rattle.tw_recon.proofs.bodies.kind_of_domains.Given as goal

-- what is left stands in front of what is made
abbrev pub invariant-loop-domain : goal.invariant-loop-domain
invariant-loop-domain l = kind_from (map type_of l.domains.items) (kind_of l.kind) ≡ kind_of_types (map type_of l.fn.domains.items)

abbrev pub decreases-loop-domain : goal.decreases-loop-domain
decreases-loop-domain l = vec_len l.domains
