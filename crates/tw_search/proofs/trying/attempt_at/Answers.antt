use Rattle.std.proofs.Common.{◌≡◌, [], Err, ap, arith, map, subst, rules}
use Rattle.std.proofs.lemmas.Grind.{common_steps}
use Rattle.lf.specs.Entries.{signature_of}
use Rattle.lf.proofs.Entries.{canonical_is_signature}
use Rattle.tw_metas.specs.View.{equation_of}
use Rattle.tw_putting.specs.Whole.{whole}
use Rattle.tw_terms.specs.View.{head_of}
use Rattle.tw_unify.specs.Faults.{fault_of}
use Rattle.tw_unify.specs.Reaching.{IsKnown, marking_of}
use Rattle.tw_unify.specs.Answers.{Answers, RenewsOnlyReached, StaysReady}
use Rattle.tw_unify.proofs.Stories.{later_then}
use Rattle.tw_search.specs.HeadTypes.{head_type_of}
use Rattle.tw_search.specs.Offers.{offered_arguments}
use Rattle.tw_search.specs.Reducing.{WasOffered}
use Rattle.tw_search.proofs.OneTry.{offered_deep, passed_on, reduced_deep, reduced_done, reduced_left, reduced_left_over, reduced_never, reduced_ready, reduced_refuted, reduced_solved}
use Rattle.tw_search.proofs.Reductions.{known_of_offer, none_met}
use Rattle.tw_search.proofs.trying.attempt_at.Goals as goal

pub reduce-requires-clause-was : goal.reduce-requires-clause-was
reduce-requires-clause-was c = record {
  before = c.args.store.now.now;
  at = c.requires.goal;
  head = head_of c.args.head;
  subgoals = c.in_ok-offered.offered.subgoals.items;
  offered = c.in_ok-offered.ensures.ok;
  numbers = c.in_ok-offered.ensures.metas;
}

pub returns-in_err-reduce-clause-story : goal.returns-in_err-reduce-clause-story
returns-in_err-reduce-clause-story c = later_then c.args.store.now c.offer.new.store c.reduce.new.store c.in_ok-offered.ensures.story c.in_err-reduce.ensures.story

pub returns-in-Never-clause-story : goal.returns-in-Never-clause-story
returns-in-Never-clause-story c = later_then c.args.store.now c.offer.new.store c.reduce.new.store c.in_ok-offered.ensures.story c.in_ok-reduce.ensures.story

pub returns-then-is_empty-2-clause-story : goal.returns-then-is_empty-2-clause-story
returns-then-is_empty-2-clause-story c = later_then c.args.store.now c.offer.new.store c.reduce.new.store c.in_ok-offered.ensures.story c.in_ok-reduce.ensures.story

pub returns-in-Never-2-clause-story : goal.returns-in-Never-2-clause-story
returns-in-Never-2-clause-story c = later_then c.args.store.now c.reduce.new.store c.solve_more.new.store (later_then c.args.store.now c.offer.new.store c.reduce.new.store c.in_ok-offered.ensures.story c.in_ok-reduce.ensures.story) c.in_ok-solve_more-in-Left.ensures.story

pub returns-in-Solved-clause-story : goal.returns-in-Solved-clause-story
returns-in-Solved-clause-story c = later_then c.args.store.now c.reduce.new.store c.solve_more.new.store (later_then c.args.store.now c.offer.new.store c.reduce.new.store c.in_ok-offered.ensures.story c.in_ok-reduce.ensures.story) c.in_ok-solve_more-in-Left.ensures.story

pub returns-in-Left-2-clause-story : goal.returns-in-Left-2-clause-story
returns-in-Left-2-clause-story c = later_then c.args.store.now c.reduce.new.store c.solve_more.new.store (later_then c.args.store.now c.offer.new.store c.reduce.new.store c.in_ok-offered.ensures.story c.in_ok-reduce.ensures.story) c.in_ok-solve_more-in-Left.ensures.story

pub returns-in_err-solve_more-in-Left-clause-story : goal.returns-in_err-solve_more-in-Left-clause-story
returns-in_err-solve_more-in-Left-clause-story c = later_then c.args.store.now c.reduce.new.store c.solve_more.new.store (later_then c.args.store.now c.offer.new.store c.reduce.new.store c.in_ok-offered.ensures.story c.in_ok-reduce.ensures.story) c.in_err-solve_more-in-Left.ensures.story

pub returns-in-Never-clause-known : goal.returns-in-Never-clause-known
returns-in-Never-clause-known c =
    let Σ = signature_of c.args.signature.now in
    let ok = canonical_is_signature c.args.signature.now c.is_canonical.ensures in
    let w = marking_of c.pass_over.new.met in
    let A = head_type_of c.args.ty in
    let ms = c.in_ok-offered.offered.metas.items in
    let s = c.args.store.now.now in
    let was : WasOffered Σ c.args.goal.now A ms c.offer.new.store.now = record { before = s; at = c.requires.goal; head = head_of c.args.head; subgoals = c.in_ok-offered.offered.subgoals.items; offered = c.in_ok-offered.ensures.ok; numbers = c.in_ok-offered.ensures.metas } in
    let known : IsKnown s w = c.pass_over.ensures.known s c.requires.known in
    c.in_ok-reduce.ensures.known (none_met Σ c.args.goal.now A ms c.offer.new.store.now was w known.declared) (known_of_offer Σ ok c.args.goal.now A ms c.offer.new.store.now was w known c.pass_over.ensures.unmarked)

pub returns-then-is_empty-2-clause-known : goal.returns-then-is_empty-2-clause-known
returns-then-is_empty-2-clause-known c =
    let Σ = signature_of c.args.signature.now in
    let ok = canonical_is_signature c.args.signature.now c.is_canonical.ensures in
    let w = marking_of c.pass_over.new.met in
    let A = head_type_of c.args.ty in
    let ms = c.in_ok-offered.offered.metas.items in
    let s = c.args.store.now.now in
    let was : WasOffered Σ c.args.goal.now A ms c.offer.new.store.now = record { before = s; at = c.requires.goal; head = head_of c.args.head; subgoals = c.in_ok-offered.offered.subgoals.items; offered = c.in_ok-offered.ensures.ok; numbers = c.in_ok-offered.ensures.metas } in
    let known : IsKnown s w = c.pass_over.ensures.known s c.requires.known in
    c.in_ok-reduce.ensures.known (none_met Σ c.args.goal.now A ms c.offer.new.store.now was w known.declared) (known_of_offer Σ ok c.args.goal.now A ms c.offer.new.store.now was w known c.pass_over.ensures.unmarked)

pub solve_more-requires-clause-known : goal.solve_more-requires-clause-known
solve_more-requires-clause-known c =
    let Σ = signature_of c.args.signature.now in
    let ok = canonical_is_signature c.args.signature.now c.is_canonical.ensures in
    let w = marking_of c.pass_over.new.met in
    let A = head_type_of c.args.ty in
    let ms = c.in_ok-offered.offered.metas.items in
    let s = c.args.store.now.now in
    let was : WasOffered Σ c.args.goal.now A ms c.offer.new.store.now = record { before = s; at = c.requires.goal; head = head_of c.args.head; subgoals = c.in_ok-offered.offered.subgoals.items; offered = c.in_ok-offered.ensures.ok; numbers = c.in_ok-offered.ensures.metas } in
    let known : IsKnown s w = c.pass_over.ensures.known s c.requires.known in
    c.in_ok-reduce.ensures.known (none_met Σ c.args.goal.now A ms c.offer.new.store.now was w known.declared) (known_of_offer Σ ok c.args.goal.now A ms c.offer.new.store.now was w known c.pass_over.ensures.unmarked)

pub returns-in-Never-clause-tried : goal.returns-in-Never-clause-tried
returns-in-Never-clause-tried c =
    let Σ = signature_of c.args.signature.now in
    let ok = canonical_is_signature c.args.signature.now c.is_canonical.ensures in
    let T = offered_arguments c.args.goal.now c.in_ok-offered.offered.metas.items (head_type_of c.args.ty) in
    reduced_refuted Σ ok c.args.store.now.now c.args.goal.now (head_of c.args.head) c.requires.goal T c.in_ok-offered.offered.subgoals.items c.offer.new.store.now c.in_ok-offered.ensures.ok c.in_ok-reduce.field-0 c.reduce.new.store.now c.in_ok-reduce.ensures.ok c.in-Never.is

pub returns-then-is_empty-2-clause-tried : goal.returns-then-is_empty-2-clause-tried
returns-then-is_empty-2-clause-tried c =
    let Σ = signature_of c.args.signature.now in
    let ok = canonical_is_signature c.args.signature.now c.is_canonical.ensures in
    let T = offered_arguments c.args.goal.now c.in_ok-offered.offered.metas.items (head_type_of c.args.ty) in
    let none : c.in-Left.equations.items ≡ [] = grind (arith, common_steps) in
    let kept : c.reduce.new.store.now.equations ≡ [] = grind (arith, common_steps) in
    reduced_done Σ ok c.args.store.now.now c.args.goal.now (head_of c.args.head) c.requires.goal T c.in_ok-offered.offered.subgoals.items c.offer.new.store.now c.in_ok-offered.ensures.ok c.in_ok-reduce.field-0 c.reduce.new.store.now c.in_ok-reduce.ensures.ok c.in-Left.equations c.in-Left.is (ap (map equation_of) none) kept

pub solve_more-requires-clause-ready : goal.solve_more-requires-clause-ready
solve_more-requires-clause-ready c =
    let Σ = signature_of c.args.signature.now in
    let ok = canonical_is_signature c.args.signature.now c.is_canonical.ensures in
    let T = offered_arguments c.args.goal.now c.in_ok-offered.offered.metas.items (head_type_of c.args.ty) in
    reduced_ready Σ ok c.args.store.now.now c.args.goal.now (head_of c.args.head) c.requires.goal T c.in_ok-offered.offered.subgoals.items c.offer.new.store.now c.in_ok-offered.ensures.ok c.in_ok-reduce.field-0 c.reduce.new.store.now c.in_ok-reduce.ensures.ok c.in-Left.equations c.in-Left.is

pub solve_more-requires-clause-left : goal.solve_more-requires-clause-left
solve_more-requires-clause-left c =
    let Σ = signature_of c.args.signature.now in
    let ok = canonical_is_signature c.args.signature.now c.is_canonical.ensures in
    let T = offered_arguments c.args.goal.now c.in_ok-offered.offered.metas.items (head_type_of c.args.ty) in
    let (given, left) = reduced_left Σ ok c.args.store.now.now c.args.goal.now (head_of c.args.head) c.requires.goal T c.in_ok-offered.offered.subgoals.items c.offer.new.store.now c.in_ok-offered.ensures.ok c.in_ok-reduce.field-0 c.reduce.new.store.now c.in_ok-reduce.ensures.ok c.in-Left.equations c.in-Left.is in
    c.all_left_over_are_left.ensures given c.reduce.new.store.now left

pub returns-in_err-solve_more-in-Left-clause-tried : goal.returns-in_err-solve_more-in-Left-clause-tried
returns-in_err-solve_more-in-Left-clause-tried c =
    let Σ = signature_of c.args.signature.now in
    let ok = canonical_is_signature c.args.signature.now c.is_canonical.ensures in
    let T = offered_arguments c.args.goal.now c.in_ok-offered.offered.metas.items (head_type_of c.args.ty) in
    let f = c.in_err-solve_more-in-Left.field-0.0 in
    let e : c.from_residual-in_err-solve_more-in-Left.result ≡ Err f = search rules in
    rw e (reduced_deep Σ ok c.args.store.now.now c.args.goal.now (head_of c.args.head) c.requires.goal T c.in_ok-offered.offered.subgoals.items c.offer.new.store.now c.in_ok-offered.ensures.ok c.in_ok-reduce.field-0 c.reduce.new.store.now c.in_ok-reduce.ensures.ok c.in-Left.equations c.in-Left.is f c.in_err-solve_more-in-Left.ensures.answer)

pub returns-in-Never-2-clause-tried : goal.returns-in-Never-2-clause-tried
returns-in-Never-2-clause-tried c =
    let Σ = signature_of c.args.signature.now in
    let ok = canonical_is_signature c.args.signature.now c.is_canonical.ensures in
    let T = offered_arguments c.args.goal.now c.in_ok-offered.offered.metas.items (head_type_of c.args.ty) in
    reduced_never Σ ok c.args.store.now.now c.args.goal.now (head_of c.args.head) c.requires.goal T c.in_ok-offered.offered.subgoals.items c.offer.new.store.now c.in_ok-offered.ensures.ok c.in_ok-reduce.field-0 c.reduce.new.store.now c.in_ok-reduce.ensures.ok c.in-Left.equations c.in-Left.is
    (subst (λ a. Answers a Σ (whole (map equation_of c.in-Left.equations.items) c.reduce.new.store.now) (whole [] c.solve_more.new.store.now)) c.in-Never-2.is c.in_ok-solve_more-in-Left.ensures.answer)

pub returns-in-Solved-clause-tried : goal.returns-in-Solved-clause-tried
returns-in-Solved-clause-tried c =
    let Σ = signature_of c.args.signature.now in
    let ok = canonical_is_signature c.args.signature.now c.is_canonical.ensures in
    let T = offered_arguments c.args.goal.now c.in_ok-offered.offered.metas.items (head_type_of c.args.ty) in
    reduced_solved Σ ok c.args.store.now.now c.args.goal.now (head_of c.args.head) c.requires.goal T c.in_ok-offered.offered.subgoals.items c.offer.new.store.now c.in_ok-offered.ensures.ok c.in_ok-reduce.field-0 c.reduce.new.store.now c.in_ok-reduce.ensures.ok c.in-Left.equations c.in-Left.is c.solve_more.new.store.now
    (subst (λ a. Answers a Σ (whole (map equation_of c.in-Left.equations.items) c.reduce.new.store.now) (whole [] c.solve_more.new.store.now)) c.in-Solved.is c.in_ok-solve_more-in-Left.ensures.answer)
    (subst (λ a. RenewsOnlyReached a Σ (whole (map equation_of c.in-Left.equations.items) c.reduce.new.store.now) (whole [] c.solve_more.new.store.now)) c.in-Solved.is c.in_ok-solve_more-in-Left.ensures.renews)
    (subst (λ a. StaysReady a Σ c.solve_more.new.store.now) c.in-Solved.is c.in_ok-solve_more-in-Left.ensures.ready)

pub returns-in-Left-2-clause-tried : goal.returns-in-Left-2-clause-tried
returns-in-Left-2-clause-tried c =
    let Σ = signature_of c.args.signature.now in
    let ok = canonical_is_signature c.args.signature.now c.is_canonical.ensures in
    let T = offered_arguments c.args.goal.now c.in_ok-offered.offered.metas.items (head_type_of c.args.ty) in
    reduced_left_over Σ ok c.args.store.now.now c.args.goal.now (head_of c.args.head) c.requires.goal T c.in_ok-offered.offered.subgoals.items c.offer.new.store.now c.in_ok-offered.ensures.ok c.in_ok-reduce.field-0 c.reduce.new.store.now c.in_ok-reduce.ensures.ok c.in-Left.equations c.in-Left.is c.solve_more.new.store.now
    (subst (λ a. Answers a Σ (whole (map equation_of c.in-Left.equations.items) c.reduce.new.store.now) (whole [] c.solve_more.new.store.now)) c.in-Left-2.is c.in_ok-solve_more-in-Left.ensures.answer)
    (subst (λ a. RenewsOnlyReached a Σ (whole (map equation_of c.in-Left.equations.items) c.reduce.new.store.now) (whole [] c.solve_more.new.store.now)) c.in-Left-2.is c.in_ok-solve_more-in-Left.ensures.renews)
    (subst (λ a. StaysReady a Σ c.solve_more.new.store.now) c.in-Left-2.is c.in_ok-solve_more-in-Left.ensures.ready)

pub returns-in_err-reduce-clause-tried : goal.returns-in_err-reduce-clause-tried
returns-in_err-reduce-clause-tried c =
    let Σ = signature_of c.args.signature.now in
    let ok = canonical_is_signature c.args.signature.now c.is_canonical.ensures in
    let g = c.args.goal.now in
    let h = head_of c.args.head in
    let s = c.args.store.now.now in
    let T = offered_arguments g c.in_ok-offered.offered.metas.items (head_type_of c.args.ty) in
    let f = c.in_err-reduce.field-0.0 in
    let e : c.from_residual-in_err-reduce.result ≡ Err (fault_of f) = search rules in
    rw e (passed_on f Σ s g h (λ q. offered_deep Σ ok s g h c.requires.goal T c.in_ok-offered.offered.subgoals.items c.offer.new.store.now c.in_ok-offered.ensures.ok (c.in_err-reduce.ensures.too_deep (ap Err q))))
