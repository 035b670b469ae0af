-- The variables of a clause that a goal of outputs keeps are typed items, and so is what stands outside the clause.
use Rattle.std.proofs.Common.{◌≡◌, ℕ, zero, suc, ◌+◌, List, [], ◌∷◌, length, refl, sym, ap, ap₂, ◌∙◌, subst, arith, true≢false}
use Rattle.std.specs.Prelude.{Bool, true, false, cond}
use Rattle.lf.specs.Syntax.{constant, variable, metavariable, Term, Spine, lambda, root, nil, app, LfType, pi, atom, weaken, rename_type, lift_renaming}
use Rattle.lf.specs.Substitution.{keep, lift, substitute_type, reduce}
use Rattle.lf.specs.AtOnce.{shift_by}
use Rattle.lf.specs.Typing.{Signature, TypeAt, IsType, IsContext, IsSignature, IsTypedRenaming}
use Rattle.lf.specs.Variables.{onto, under, hide, everything, same_number, Uses, UsesSpine, UsesType, Within, IsTypedRenamingOn}
use Rattle.lf.specs.Subordination.{Block, AreTypedBlocks}
use Rattle.lf.specs.Worlds.{lift_over, instance}
use Rattle.lf.proofs.Agreement.{uses_type_within}
use Rattle.lf.proofs.Partial.{uses_type_all}
use Rattle.lf.proofs.Renaming.{lift_keep}
use Rattle.lf.proofs.TypeLaws.{substitute_identity_type}
use Rattle.lf.proofs.Checker.{number_itself}
use Rattle.lf_unification.specs.Search.{occurs, occurs_spine, occurs_type}
use Rattle.lf_checks.specs.Tests.{both, either}
use Rattle.lf_checks.specs.Clause.{Clause, IsClause, from_constant, from_entry}
use Rattle.lf_cases.specs.Case.{Item, free_variable, items_context, past_place}
use Rattle.lf_cases.specs.Missing.{AreTypedItems}
use Rattle.lf_cases.specs.OutputGoal.{free_variables, outside_items, outside_number, closed_over, kept_number, kept_items}
use Rattle.lf_cases.specs.Pattern.{origin}
use Rattle.lf_cases.proofs.BlockEntries.{onto_onto}
use Rattle.lf_cases.proofs.GroundTypes.{either_left}
use Rattle.lf_coverage.specs.Matching.{HoldsTypes}
use Rattle.lf_coverage.proofs.Forms.{far_type}
use Rattle.lf_coverage.proofs.InputTyped.{closed_chosen, closed_other, renames_other, renamed_type}
use Rattle.lf_coverage.proofs.ItemsContext.{items_are_context, outer_context}
use Rattle.lf_coverage.proofs.SolvedCase.{free_context_is, free_typed}
use Rattle.lf_coverage.proofs.Strip.{under_binder}
use mathlib.Core.Path.{fun_ext}

-- What occurs in a text is all that it uses.
second_true : (a : Bool) {b : Bool} → b ≡ true → either a b ≡ true
second_true true e = refl
second_true false e = e

mutual
  term_uses : (W : ℕ → Bool) (M : Term) → ((j : ℕ) → occurs j M ≡ true → W j ≡ true) → Uses W M
  term_uses W (lambda M) h = term_uses (under W) M (λ j. newer j)
    where
      newer : (j : ℕ) → occurs j M ≡ true → under W j ≡ true
      newer zero e = refl
      newer (suc j) e = h j e
  term_uses W (root (constant c) S) h = spine_uses W S h
  term_uses W (root (metavariable c) S) h = spine_uses W S h
  term_uses W (root (variable i) S) h = (h i (either_left (occurs_spine i S) (number_itself i)), spine_uses W S (λ j e. h j (second_true (same_number j i) e)))

  spine_uses : (W : ℕ → Bool) (S : Spine) → ((j : ℕ) → occurs_spine j S ≡ true → W j ≡ true) → UsesSpine W S
  spine_uses W nil h = tt
  spine_uses W (app M S) h = (term_uses W M (λ j e. h j (either_left (occurs_spine j S) e)), spine_uses W S (λ j e. h j (second_true (occurs j M) e)))

type_uses : (W : ℕ → Bool) (A : LfType) → ((j : ℕ) → occurs_type j A ≡ true → W j ≡ true) → UsesType W A
type_uses W (pi A B) h = (type_uses W A (λ j e. h j (either_left (occurs_type (suc j) B) e)), type_uses (under W) B (λ j. newer j))
  where
    newer : (j : ℕ) → occurs_type j B ≡ true → under W j ≡ true
    newer zero e = refl
    newer (suc j) e = h j (second_true (occurs_type j A) e)
type_uses W (atom a S) h = spine_uses W S h

-- What is kept of the context D, where V says so of its variables: and all that stands outside D.
abbrev pub keep_set : List LfType → (ℕ → Bool) → ℕ → Bool
keep_set [] V i = true
keep_set (A ∷ D) V zero = V zero
keep_set (A ∷ D) V (suc i) = keep_set D (λ j. V (suc j)) i

pub within_closed : (D : List LfType) (U : ℕ → Bool) → Within U (keep_set D (closed_over D U))
within_closed [] U i e = refl
within_closed (A ∷ D) U zero e = e
within_closed (A ∷ D) U (suc i) e = within_closed D (λ j. either (U (suc j)) (both (U zero) (occurs_type j A))) i (either_left (both (U zero) (occurs_type i A)) e)

renames_within : (U V : ℕ → Bool) (G D : List LfType) (ρ : ℕ → ℕ) → Within V U → IsTypedRenamingOn U G D ρ → IsTypedRenamingOn V G D ρ
renames_within U V G D ρ w r i A g v = r i A g (w i v)

closed_within : (U V : ℕ → Bool) (G : List LfType) → Within U V → Within V U → HoldsTypes U G → HoldsTypes V G
closed_within U V G w x c i A g v = uses_type_within U V A w (c i A g (x i v))

-- the context of what stands outside an entry
pub lift_same : (es : List LfType) → lift_over es keep ≡ keep
lift_same [] = refl
lift_same (E ∷ es) = ap lift (lift_same es) ∙ fun_ext lift_keep

pub entries_same : (es : List LfType) → instance es keep ≡ es
entries_same [] = refl
entries_same (E ∷ es) = ap₂ ◌∷◌ (ap (λ f. substitute_type reduce f E) (lift_same es) ∙ substitute_identity_type reduce E) (entries_same es)

pub outside_context : (B : Block) (later : List LfType) (E : LfType) (es : List LfType) → onto later (E ∷ es) ≡ B.entries → onto (instance B.entries keep) (items_context (free_variables B.some)) ≡ onto later (E ∷ onto es B.some)
outside_context B later E es e = ap₂ onto (entries_same B.entries ∙ sym e) (free_context_is B.some) ∙ onto_onto later (E ∷ es) B.some

module _ (Σ : Signature) (ok : IsSignature Σ) (W : List Block) (typed : AreTypedBlocks Σ W) where
  -- ρ takes the variables of C in the set V to typed items, and the set holds the variables in their types
  pub record KeptTyped (C : List LfType) (V : ℕ → Bool) (ρ : ℕ → ℕ) (I : List Item) : Type 0 where
    pub items : AreTypedItems Σ W I
    pub renames : IsTypedRenamingOn V C (items_context I) ρ
    pub closed : HoldsTypes V C

  -- one more quantifier, kept or not
  module _ (A : LfType) (D O : List LfType) (U : ℕ → Bool) (ρ : ℕ → ℕ) (I : List Item) where
    abbrev with_type : ℕ → Bool
    with_type j = either (U (suc j)) (both (U zero) (occurs_type j A))

    abbrev V : ℕ → Bool
    V = closed_over D with_type

    abbrev X : ℕ → Bool
    X = keep_set D (closed_over D with_type)

    abbrev κ : ℕ → ℕ
    κ = kept_number (closed_over D with_type) D ρ

    abbrev J : List Item
    J = kept_items (closed_over D with_type) D ρ I

    abbrev Y : ℕ → Bool
    Y = keep_set (A ∷ D) (closed_over (A ∷ D) U)

    set_in : Within Y (under X)
    set_in zero v = refl
    set_in (suc i) v = v

    set_from : U zero ≡ true → Within (under X) Y
    set_from e zero v = e
    set_from e (suc i) v = v

    hidden_in : U zero ≡ false → Within Y (hide X)
    hidden_in e zero v = absurd (true≢false (sym v ∙ e))
    hidden_in e (suc i) v = v

    hidden_from : Within (hide X) Y
    hidden_from zero v = absurd cc
    hidden_from (suc i) v = v

    chosen : U zero ≡ true → (j : ℕ) → occurs_type j A ≡ true → X j ≡ true
    chosen e j o = within_closed D with_type j (second_true (U (suc j)) (ap (λ b. both b (occurs_type j A)) e ∙ o))

    one_kept : IsContext Σ (onto D O) → IsType Σ (onto D O) A → KeptTyped (onto D O) X κ J → (b : Bool) → U zero ≡ b → KeptTyped (A ∷ onto D O) Y (cond b (lift_renaming κ) (past_place κ)) (cond b (free_variable (rename_type κ A) ∷ J) J)
    one_kept c t k true e =
        let u : UsesType X A = type_uses X A (chosen e) in
        record {
          items = (k.items, renamed_type Σ ok W typed X (onto D O) (items_context J) κ A c (items_are_context Σ ok W typed J k.items) k.renames k.closed t u);
          renames = renames_within (under X) Y (A ∷ onto D O) (rename_type κ A ∷ items_context J) (lift_renaming κ) set_in (under_binder X (onto D O) (items_context J) κ A k.renames);
          closed = closed_within (under X) Y (A ∷ onto D O) (set_from e) set_in (closed_chosen X (onto D O) A u k.closed);
        }
    one_kept c t k false e = record {
      items = k.items;
      renames = renames_within (hide X) Y (A ∷ onto D O) (items_context J) (past_place κ) (hidden_in e) (renames_other X (onto D O) (items_context J) κ A k.renames);
      closed = closed_within (hide X) Y (A ∷ onto D O) hidden_from (hidden_in e) (closed_other X (onto D O) A k.closed);
    }

  pub kept_typed : (D O : List LfType) (U : ℕ → Bool) (ρ : ℕ → ℕ) (I : List Item) → IsContext Σ (onto D O) → AreTypedItems Σ W I → IsTypedRenaming O (items_context I) ρ → KeptTyped (onto D O) (keep_set D (closed_over D U)) (kept_number (closed_over D U) D ρ) (kept_items (closed_over D U) D ρ I)
  kept_typed [] O U ρ I c ti r = record { items = ti; renames = λ i A g u. r i A g; closed = λ i A g u. uses_type_all everything A (λ j. refl) }
  kept_typed (A ∷ D) O U ρ I (c, t) ti r = one_kept A D O U ρ I c t (kept_typed D O (λ j. either (U (suc j)) (both (U zero) (occurs_type j A))) ρ I c ti r) (U zero) refl

  -- what stands outside the clause
  pub outside_typed : {c : Clause} (d : IsClause Σ W c) → AreTypedItems Σ W (outside_items (origin d)) × IsTypedRenaming c.outer (items_context (outside_items (origin d))) (outside_number (origin d))
  outside_typed (from_constant k U e) = (tt, λ i A g. absurd g)
  outside_typed (from_entry B later E es m e) =
      let O : List LfType = B.some in
      let C : List LfType = items_context (free_variables B.some) in
      let shape : onto (instance B.entries keep) C ≡ onto later (E ∷ onto es O) = outside_context B later E es e in (
        (
          free_typed Σ W O (outer_context Σ B.entries O (typed B m)),
          m,
          record {
            typed = λ i A g u. subst (TypeAt C i) (sym (substitute_identity_type reduce A)) (subst (λ G. TypeAt G i A) (sym (free_context_is O)) g);
            closed = λ i A g u. uses_type_all everything A (λ j. refl);
          },
        ),
        λ i A g. subst (λ G. TypeAt G (i + suc (length later)) (rename_type (shift_by (suc (length later))) A)) (sym shape) (moved later E (onto es O) i A g),
      )
    where
      next : (i n : ℕ) → suc i + n ≡ i + suc n
      next i n = omega arith

      moved : (later : List LfType) (E : LfType) (G : List LfType) (i : ℕ) (A : LfType) → TypeAt G i A → TypeAt (onto later (E ∷ G)) (i + suc (length later)) (rename_type (shift_by (suc (length later))) A)
      moved later E G i A g = subst (λ j. TypeAt (onto later (E ∷ G)) j (rename_type (shift_by (suc (length later))) A)) (next i (length later)) (subst (TypeAt (onto later (E ∷ G)) (suc i + length later)) (Rattle.lf.proofs.TypeLaws.renamings_compose_type (shift_by (length later)) suc A ∙ ap (λ f. rename_type f A) (fun_ext (λ j. next j (length later)))) (far_type later (E ∷ G) (suc i) (weaken A) (A, g, refl)))
