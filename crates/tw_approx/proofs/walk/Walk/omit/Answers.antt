use Rattle.std.proofs.lemmas.List.{map-append}
use Rattle.tw_approx.specs.Reading.{state_of}
use Rattle.tw_shapes.proofs.Views.{shape_of-Variable}
use Rattle.tw_approx.proofs.Unifying.{IsFresh, omitted_reads}
use Rattle.tw_approx.proofs.walk.Walk.omit.Goals as goal

pub returns : goal.returns
returns c =
    let v = c.in_ok-variable.variable in
    let e = c.in_ok-variable.ensures in
    let fresh : IsFresh c.args.self.now.shapes c.fresh.new.self v.0 = record { number = e.number; within = e.within; count = e.count; same = e.same; unused = e.unused } in
    rw (shape_of-Variable v, c.in_ok-push.ensures.items, map-append) (omitted_reads (state_of c.args.self.now) c.fresh.new.self v.0 c.requires fresh)
