use Rattle.std.proofs.Common.{◌≡◌, map, take}
use Rattle.tw_written.proofs.places.variables.Given as goal

abbrev pub invariant-loop-site : goal.invariant-loop-site
invariant-loop-site l = l.variables.items ≡ map (λ s. s.number) (take l.site-index l.sites)
