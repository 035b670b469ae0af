use Rattle.std.proofs.Common.{◌≡◌, map, reverse, inl, inr, sym, ap, subst, ◌∙◌}
use Rattle.std.proofs.lemmas.List.{reverse-reverse}
use Rattle.tw_approx.specs.Answer.{rows_of}
use Rattle.tw_approx.specs.Reading.{state_of}
use Rattle.tw_approx.specs.Solving.{AreAlways, AreDeeper, AreSettled, RowsAreAlways, numbers_of}
use Rattle.tw_approx.specs.Walks.{Variables}
use Rattle.tw_terms.specs.View.{skeleton_of}
use Rattle.tw_approx.proofs.Rows.{left_deep}
use Rattle.tw_approx.proofs.approximation.solved.Goals as goal

pub returns-in_default-clause-open : goal.returns-in_default-clause-open
returns-in_default-clause-open c =
    let w = c.args.walk.now in
    let rows : Variables = map (λ r. (r.name, r.shape.0)) c.rows-rows.result.now in
    let same : rows ≡ reverse w.variables = sym (reverse-reverse rows) ∙ ap reverse c.rows-rows.ensures in
    let omitted = subst (λ ms. AreSettled w.shapes (map (λ m. m.0) ms)) c.deref.ensures.value (rw c.if-not-branch.false at c.in_ok-are_settled.ensures) in
    let free = subst (λ (ys : Variables). AreSettled w.shapes (numbers_of ys)) same (rw c.if-not-branch-2.false at c.in_ok-rows_are_settled.ensures) in
    let deep = subst (λ ms. AreDeeper w.shapes (map (λ m. m.0) ms)) c.deref-2.ensures.value (rw c.in_default.is at c.in_ok-omitted.ensures) in
    left_deep (state_of w) c.has_solution.ensures omitted free (inl deep)

pub returns-in_default-2-clause-open : goal.returns-in_default-2-clause-open
returns-in_default-2-clause-open c =
    let w = c.args.walk.now in
    let rows : Variables = map (λ r. (r.name, r.shape.0)) c.rows-rows.result.now in
    let same : rows ≡ reverse w.variables = sym (reverse-reverse rows) ∙ ap reverse c.rows-rows.ensures in
    let omitted = subst (λ ms. AreSettled w.shapes (map (λ m. m.0) ms)) c.deref.ensures.value (rw c.if-not-branch.false at c.in_ok-are_settled.ensures) in
    let free = subst (λ (ys : Variables). AreSettled w.shapes (numbers_of ys)) same (rw c.if-not-branch-2.false at c.in_ok-rows_are_settled.ensures) in
    let deep = subst (λ (ys : Variables). AreDeeper w.shapes (numbers_of ys)) same (rw c.in_default-2.is at c.in_ok-free.ensures) in
    left_deep (state_of w) c.has_solution.ensures omitted free (inr deep)

pub returns-clause-solved : goal.returns-clause-solved
returns-clause-solved c =
    let w = c.args.walk.now in
    let rows : Variables = map (λ r. (r.name, r.shape.0)) c.rows-rows.result.now in
    let same : rows ≡ reverse w.variables = sym (reverse-reverse rows) ∙ ap reverse c.rows-rows.ensures in
    let free = rw c.in-Some-2.is at c.in_ok-free.ensures in
    let omitted = rw c.in-Some.is at c.in_ok-omitted.ensures in
    record {
      solution = c.has_solution.ensures;
      free = subst (λ (ys : Variables). RowsAreAlways w.shapes ys (rows_of c.in-Some-2.free.items)) same free;
      omitted = subst (λ ms. AreAlways w.shapes (map (λ m. m.0) ms) (map skeleton_of c.in-Some.omitted.items)) c.deref-2.ensures.value omitted;
    }
