use Rattle.std.proofs.Common.{Some, refl, sym, ap, ◌∙◌}
use Rattle.std.proofs.lemmas.List.{nil_from_length}
use Rattle.tw_parse.specs.Applied.{written_terms}
use Rattle.tw_written.specs.View.{written_of}
use Rattle.tw_resolve.specs.Rows.{on_arguments, rows_read}
use Rattle.tw_resolve.proofs.Waiting.{row_ends, row_waits, rows_end}
use Rattle.tw_resolve.proofs.rows.advance.Goals as goal

pub returns-in-Some : goal.returns-in-Some
returns-in-Some c es free N o =
    let before = on_arguments es free N (written_terms c.args.arguments.items) (Some (written_of c.args.function, o)) in
    row_waits es free N c.loop-argument.waiting.items c.push.new.self.items (record { function = c.loop-argument.function; arguments = c.pop.new.self }) c.loop-argument.arguments.items c.pop.new.self.items c.in-Some.argument o (rows_read es free N c.args.waiting.now.items before)
    c.in_ok-push-in-Some.ensures.items c.in-Some.ensures.items refl (c.loop-argument.invariant es free N o)

pub loop-argument-preserved : goal.loop-argument-preserved
loop-argument-preserved c es free N o =
    let before = on_arguments es free N (written_terms c.args.arguments.items) (Some (written_of c.args.function, o)) in
    let M = written_of c.loop-argument.function in
    let none_left = nil_from_length c.loop-argument.arguments.items (sym c.loop-argument.arguments.ok.0 ∙ c.in-None.ensures.cases.0) in
    let ended = ap (λ Ps. rows_read es free N c.loop-argument.waiting.items (on_arguments es free N (written_terms Ps) (Some (M, o)))) (sym none_left) ∙ c.loop-argument.invariant es free N o in
    row_ends es free N c.pop-in-None.new.self.items c.loop-argument.waiting.items c.in-Some-pop.row M (written_of c.in_ok-function-in-Some-pop.function) o (rows_read es free N c.args.waiting.now.items before)
    c.in-Some-pop.ensures.items c.in_ok-function-in-Some-pop.ensures ended

pub returns-in-None-pop : goal.returns-in-None-pop
returns-in-None-pop c es free N o =
    let before = on_arguments es free N (written_terms c.args.arguments.items) (Some (written_of c.args.function, o)) in
    let none_left = nil_from_length c.loop-argument.arguments.items (sym c.loop-argument.arguments.ok.0 ∙ c.in-None.ensures.cases.0) in
    let none_waits = nil_from_length c.loop-argument.waiting.items (sym c.loop-argument.waiting.ok.0 ∙ c.in-None-pop.ensures.cases.0) in
    rows_end es free N c.loop-argument.waiting.items c.loop-argument.arguments.items (written_of c.loop-argument.function) o (rows_read es free N c.args.waiting.now.items before) none_waits none_left (c.loop-argument.invariant es free N o)
