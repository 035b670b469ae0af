use Rattle.std.proofs.Common.{◌≡◌, ◌<◌, ◌+◌, ◌-◌, suc, drop, length, subst, arith}
use Rattle.tw_written.specs.First.{AreFirstPlaces}
use Rattle.tw_written.specs.SiteView.{sites_of}
use Rattle.tw_written.proofs.Growing.{one_before}
use Rattle.tw_written.proofs.first.first_of.Goals as goal

pub loop-met-preserved : goal.loop-met-preserved
loop-met-preserved c =
    let xs = c.args.occurrences.now in
    let m = c.loop-met.met in
    let t : m < length xs = c.loop-met-test.true in
    let h : length xs - 1 - m < length xs = omega (arith, t) in
    let e : length xs - m ≡ suc (length xs - 1 - m) = omega (arith, t) in
    let i : length xs - 1 - m ≡ length xs - (m + 1) = omega (arith, t) in
    subst (λ k. AreFirstPlaces (sites_of (drop k xs)) c.args.count c.meet.new.places.items) i
    (subst (λ ss. AreFirstPlaces ss c.args.count c.meet.new.places.items) (one_before xs (length xs - 1 - m) (length xs - m) _ h e) (c.meet.ensures (sites_of (drop (length xs - m) xs)) c.args.count c.loop-met.invariant))
