use Rattle.std.proofs.Common.{◌≡◌, ◌+◌, ◌++◌, ◌∙◌, ap, arith, drop, refl, sym, Some, None, []}
use Rattle.std.specs.Prelude.{cond}
use Rattle.lf_checks.specs.Strict.{is_bound, pattern_arguments}
use Rattle.tw_terms.specs.View.{args_of, spine_of, term_of}
use Rattle.tw_terms.proofs.Args.{types}
use Rattle.tw_clause.specs.Patterns.{heads, newest_of}
use Rattle.tw_signature.proofs.Marking.{args_at}
use Rattle.tw_clause.proofs.Patterns.{heads_done, heads_next, pattern_done, pattern_fails, pattern_next}
use Rattle.tw_clause.proofs.pattern.pattern_variables.Goals.{in_default-via-in-Some+in_ok-is_unseen+else-branch, in_default-via-in_default}
use Rattle.tw_clause.proofs.pattern.pattern_variables.Goals as goal

pub returns-in_default : goal.returns-in_default
returns-in_default c =
    let items = c.deref-arg-items.result.now in
    let k = c.loop-arg.arg-index in
    let B = newest_of c.args.bound in
    let seen = c.loop-arg.seen.items in
    let M = term_of c.arg-item.result in
    let S = args_of (drop k items) in
    let R = args_of (drop (k + 1) items) in
    let e = args_at items k c.arg-item.result (omega arith) c.arg-item.is in
    let whole : args_of items ≡ spine_of c.args.spine.now = grind (arith, types) in
    elim c.in_default.branch [
      | in_default-via-in-Some+in_ok-is_unseen+else-branch w ↦ ap (λ b. cond b (Some (heads (spine_of c.args.spine.now))) None) (pattern_fails B seen M S R (Some w.in-Some.variable) e (sym w.in-Some.is ∙ c.in_ok-variable.ensures) (sym w.if-branch.false ∙ w.in_ok-is_unseen.ensures ∙ ap (λ s. is_bound B s M (Some w.in-Some.variable)) w.deref.ensures.value) ∙ c.loop-arg.invariant.so_far ∙ ap (pattern_arguments B []) whole)
      | in_default-via-in_default w ↦ ap (λ b. cond b (Some (heads (spine_of c.args.spine.now))) None) (pattern_fails B seen M S R None e (sym w.in_default.is ∙ c.in_ok-variable.ensures) refl ∙ c.loop-arg.invariant.so_far ∙ ap (pattern_arguments B []) whole)
    ]

pub loop-arg-preserved : goal.loop-arg-preserved
loop-arg-preserved c =
    let items = c.deref-arg-items.result.now in
    let k = c.loop-arg.arg-index in
    let B = newest_of c.args.bound in
    let y = c.in-Some.variable in
    let e = args_at items k c.arg-item.result (omega arith) c.arg-item.is in
    let v = sym c.in-Some.is ∙ c.in_ok-variable.ensures in
    record {
      so_far = ap (λ s. pattern_arguments B s (args_of (drop (k + 1) items))) c.in_ok-push-in-Some.ensures.items
          ∙ pattern_next B c.loop-arg.seen.items (term_of c.arg-item.result) (args_of (drop k items)) (args_of (drop (k + 1) items)) y e v (sym c.if-branch.true ∙ c.in_ok-is_unseen.ensures ∙ ap (λ s. is_bound B s (term_of c.arg-item.result) (Some y)) c.deref.ensures.value)
          ∙ c.loop-arg.invariant.so_far;
      met = ap (λ s. s ++ heads (args_of (drop (k + 1) items))) c.in_ok-push-in-Some.ensures.items
          ∙ heads_next c.loop-arg.seen.items (term_of c.arg-item.result) (args_of (drop k items)) (args_of (drop (k + 1) items)) y e v
          ∙ c.loop-arg.invariant.met;
    }

pub returns : goal.returns
returns c =
    let items = c.deref-arg-items.result.now in
    let S = spine_of c.args.spine.now in
    let whole : args_of items ≡ S = grind (arith, types) in
    ap Some (heads_done c.loop-arg.seen.items items c.loop-arg.arg-index (omega arith) ∙ c.loop-arg.invariant.met ∙ ap heads whole)
    ∙ ap (λ b. cond b (Some (heads S)) None) (pattern_done (newest_of c.args.bound) c.loop-arg.seen.items items c.loop-arg.arg-index (omega arith) ∙ c.loop-arg.invariant.so_far ∙ ap (pattern_arguments (newest_of c.args.bound) []) whole)
