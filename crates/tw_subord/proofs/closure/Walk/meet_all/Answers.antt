use Rattle.std.proofs.Common.{Contains, get_or, take, subst, sym}
use Rattle.std.proofs.lemmas.List.{take_more}
use Rattle.tw_subord.specs.Walks.{Adds, walked}
use Rattle.tw_subord.proofs.Walks.{adds_nothing, adds_one_more}
use Rattle.tw_subord.proofs.closure.Walk.meet_all.Goals as goal

pub loop-number-init : goal.loop-number-init
loop-number-init c = adds_nothing (walked c.args.self.now) c.requires

pub loop-number-preserved : goal.loop-number-preserved
loop-number-preserved c =
    let ns = c.args.numbers.now in
    let i = c.loop-number.number-index in
    subst (λ xs. Adds (Contains xs) (walked c.args.self.now) (walked c.meet.new.self)) (sym (take_more ns i 0 c.loop-number-test.true))
    (adds_one_more (walked c.args.self.now) (walked c.loop-number.self) (walked c.meet.new.self) (take i ns) (get_or ns i 0) c.loop-number.invariant c.in_ok-meet.ensures)
