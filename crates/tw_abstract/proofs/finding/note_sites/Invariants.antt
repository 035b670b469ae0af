use Rattle.std.proofs.Common.{map, take}
use Rattle.tw_abstract.specs.Quantifiers.{AreUnbound}
use Rattle.tw_abstract.proofs.Loops.{SitesNoted}
use Rattle.tw_abstract.proofs.finding.note_sites.Given as goal

-- the sites so far
abbrev pub invariant-loop-site : goal.invariant-loop-site
invariant-loop-site l = record {
  noted : SitesNoted l.store.now (map (λ m. m.0) (take l.site-index l.sites)) l.fn.found l.found;
  unbound : AreUnbound l.store.now l.found;
}
