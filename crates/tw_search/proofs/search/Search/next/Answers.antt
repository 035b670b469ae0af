use Rattle.std.proofs.Common.{◌≡◌, ◌+◌, List, length}
use Rattle.std.proofs.lemmas.Result.{IfOk-weaker, on_err_weaker}
use Rattle.lf.specs.Syntax.{LfType}
use Rattle.lf_unification.specs.Search.{Node, Pending}
use Rattle.tw_signature.specs.Goal.{Goal}
use Rattle.tw_search.specs.Standing.{Came, IsAt, Stands, StepIs}
use Rattle.tw_search.proofs.Calling.{call_gave_out, call_is, heads_again, node_again, over_stands}
use Rattle.tw_search.proofs.search.Search.next.Goals as goal

pub returns-in-Node-clause-step : goal.returns-in-Node-clause-step
returns-in-Node-clause-step c =
    let old = c.args.self.now in
    let new = c.go_on.new.self in
    let es = c.args.signature.now in
    IfOk-weaker c.go_on.result (λ s. (G : List LfType) → length G ≡ old.variables → (agenda : List Pending) → IsAt es old agenda → Came es G old new agenda c.args.budget s)
    (λ s. (g : Goal) (leaves : List Node) (agenda : List Pending) → Stands es g old leaves agenda → StepIs es g old new leaves agenda c.args.budget s)
    (λ s came. call_is es old new c.args.budget s came) c.go_on.ensures.came

pub returns-in-Node-clause-again : goal.returns-in-Node-clause-again
returns-in-Node-clause-again c = node_again c.args.signature.now c.args.self.now c.go_on.new.self c.args.budget _ c.go_on.result c.in-Node.is c.go_on.ensures.came c.go_on.ensures.err c.requires.search

pub returns-in-Heads-clause-step : goal.returns-in-Heads-clause-step
returns-in-Heads-clause-step c =
    let old = c.args.self.now in
    let new = c.go_on-in-Heads.new.self in
    let es = c.args.signature.now in
    IfOk-weaker c.go_on-in-Heads.result (λ s. (G : List LfType) → length G ≡ old.variables → (agenda : List Pending) → IsAt es old agenda → Came es G old new agenda c.args.budget s)
    (λ s. (g : Goal) (leaves : List Node) (agenda : List Pending) → Stands es g old leaves agenda → StepIs es g old new leaves agenda c.args.budget s)
    (λ s came. call_is es old new c.args.budget s came) c.go_on-in-Heads.ensures.came

pub returns-in-Heads-clause-again : goal.returns-in-Heads-clause-again
returns-in-Heads-clause-again c = heads_again c.args.signature.now c.args.self.now c.go_on-in-Heads.new.self c.args.budget c.go_on-in-Heads.result c.in-Heads.is c.go_on-in-Heads.ensures.came c.go_on-in-Heads.ensures.err c.requires.search

pub returns-in-Node-clause-gave_out : goal.returns-in-Node-clause-gave_out
returns-in-Node-clause-gave_out c =
    let old = c.args.self.now in
    let new = c.go_on.new.self in
    let es = c.args.signature.now in
    on_err_weaker c.go_on.result (call_gave_out es old new (old.tries + c.args.budget)) c.go_on.ensures.gave_out

pub returns-in-Heads-clause-gave_out : goal.returns-in-Heads-clause-gave_out
returns-in-Heads-clause-gave_out c =
    let old = c.args.self.now in
    let new = c.go_on-in-Heads.new.self in
    let es = c.args.signature.now in
    on_err_weaker c.go_on-in-Heads.result (call_gave_out es old new (old.tries + c.args.budget)) c.go_on-in-Heads.ensures.gave_out

pub returns-in-Over-clause-gave_out : goal.returns-in-Over-clause-gave_out
returns-in-Over-clause-gave_out c =
    let old = c.args.self.now in
    let es = c.args.signature.now in
    on_err_weaker c.over.result (λ e g leaves agenda w. absurd (over_stands es old c.in-Over.end c.in-Over.is g leaves agenda w)) c.over.ensures.err
