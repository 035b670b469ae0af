use Rattle.std.proofs.Common.{◌≡◌, ◌∷◌, refl, sym, ap, ap₂, ◌∙◌, arith, subst}
use Rattle.std.proofs.lemmas.Result.{on_ok_weaker}
use Rattle.lf.specs.Entries.{signature_of}
use Rattle.lf.specs.Syntax.{atom, pi}
use Rattle.tw_terms.specs.OpenView.{open_spine_of, open_type_of}
use Rattle.tw_elaborate.proofs.Compared.{compares_atoms, compares_parts}
use Rattle.tw_open.proofs.Steps.{steps}
use Rattle.tw_elaborate.proofs.Taking.{keeps_same}
use Rattle.tw_elaborate.specs.IndicesDeep.{IndicesDeep}
use Rattle.tw_elaborate.proofs.equations.compare_next.Goals as goal

pub returns-in_err-inside-in-Pi-Pi-clause-keeps : goal.returns-in_err-inside-in-Pi-Pi-clause-keeps
returns-in_err-inside-in-Pi-Pi-clause-keeps c = keeps_same c.args.state.now

pub returns-in_err-copy-in-Pi-Pi-clause-keeps : goal.returns-in_err-copy-in-Pi-Pi-clause-keeps
returns-in_err-copy-in-Pi-Pi-clause-keeps c = keeps_same c.args.state.now

pub returns-in_err-push-in-Pi-Pi-clause-keeps : goal.returns-in_err-push-in-Pi-Pi-clause-keeps
returns-in_err-push-in-Pi-Pi-clause-keeps c = keeps_same c.args.state.now

pub returns-in_err-push_comparison-in-Pi-Pi-clause-keeps : goal.returns-in_err-push_comparison-in-Pi-Pi-clause-keeps
returns-in_err-push_comparison-in-Pi-Pi-clause-keeps c = keeps_same c.args.state.now

pub returns-in_err-push_comparison-in-Pi-Pi-2-clause-keeps : goal.returns-in_err-push_comparison-in-Pi-Pi-2-clause-keeps
returns-in_err-push_comparison-in-Pi-Pi-2-clause-keeps c = keeps_same c.args.state.now

pub returns-then-family-other-clause-keeps : goal.returns-then-family-other-clause-keeps
returns-then-family-other-clause-keeps c = keeps_same c.args.state.now

pub returns-in_ok-push_comparison-in-Pi-Pi-2-clause-ok : goal.returns-in_ok-push_comparison-in-Pi-Pi-2-clause-ok
returns-in_ok-push_comparison-in-Pi-Pi-2-clause-ok c =
    let A = open_type_of c.deref.result.now in
    let B = open_type_of c.deref-in-Pi-Pi.result.now in
    let Y = open_type_of c.deref-in-Pi-Pi-2.result.now in
    let X = open_type_of c.deref-in-Pi-Pi-4.result.now in
    let t : open_type_of c.args.next.found.now ≡ pi A B = grind (arith, steps) in
    let u : open_type_of c.args.next.expected.now ≡ pi X Y = grind (arith, steps) in
    compares_parts (signature_of c.args.signature.now) c.args.next _ _ c.args.left.now.items c.push_comparison.new.left.items c.push_comparison-in-Pi-Pi.new.left.items A B X Y c.args.state.now t u c.in_ok-push_comparison-in-Pi-Pi.ensures c.in_ok-push_comparison-in-Pi-Pi-2.ensures
    (c.in_ok-push-in-Pi-Pi.ensures.ok ∙ ap₂ ◌∷◌ c.in_ok-copy-in-Pi-Pi.ensures c.in_ok-inside-in-Pi-Pi.ensures) refl refl refl (ap open_type_of (c.deref-in-Pi-Pi-3.ensures ∙ sym c.deref.ensures)) refl c.requires.found

pub returns-in_ok-push_comparison-in-Pi-Pi-2-clause-keeps : goal.returns-in_ok-push_comparison-in-Pi-Pi-2-clause-keeps
returns-in_ok-push_comparison-in-Pi-Pi-2-clause-keeps c = keeps_same c.args.state.now

pub returns-else-family-other-clause-ok : goal.returns-else-family-other-clause-ok
returns-else-family-other-clause-ok c =
    let f = c.in-Atom-Atom.family.0 in
    let g = c.in-Atom-Atom.other.0 in
    let S = open_spine_of c.in-Atom-Atom.args in
    let T = open_spine_of c.in-Atom-Atom.other_args in
    let t : open_type_of c.args.next.found.now ≡ atom f S = grind (arith, steps) in
    let u : open_type_of c.args.next.expected.now ≡ atom g T = grind (arith, steps) in
    let e : f ≡ g = grind (arith, steps) in
    on_ok_weaker c.compare_indices.result (λ q. compares_atoms (signature_of c.args.signature.now) c.args.next c.args.left.now.items f g S T c.args.state.now c.compare_indices.new.state t u e q) c.compare_indices.ensures.ok

pub returns-in_default-clause-keeps : goal.returns-in_default-clause-keeps
returns-in_default-clause-keeps c = keeps_same c.args.state.now

pub returns-else-family-other-clause-too_deep : goal.returns-else-family-other-clause-too_deep
returns-else-family-other-clause-too_deep c = λ is.
    let t : open_type_of c.args.next.found.now ≡ atom c.in-Atom-Atom.family.0 (open_spine_of c.in-Atom-Atom.args) = grind (arith, steps) in
    subst (IndicesDeep (signature_of c.args.signature.now)) (sym t) (c.compare_indices.ensures.too_deep is)
