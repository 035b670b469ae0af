-- What is typed beside a pattern in an extension, and the given terms with those of what stands outside the clause.
use Rattle.std.proofs.Common.{◌≡◌, ℕ, zero, suc, List, [], ◌∷◌, refl, sym, ap, ap₂, ◌∙◌, subst}
use Rattle.std.specs.Prelude.{Bool, true, false, cond, Option, Some, None}
use Rattle.lf.specs.Syntax.{variable, Term, Spine, nil, app, LfType, Kind, kind_pi, star, skeleton, rename_type}
use Rattle.lf.specs.Substitution.{Image, substitute, reduce}
use Rattle.lf.specs.Eta.{eta_long}
use Rattle.lf.specs.Typing.{Signature, TypeAt, instantiate_kind}
use Rattle.lf.specs.Variables.{everything, onto}
use Rattle.lf.specs.Subordination.{Block}
use Rattle.lf.specs.Extension.{Extends}
use Rattle.lf.proofs.ExtensionTyping.{extension_keeps_contexts, extension_keeps_typing, extension_keeps_types, extension_keeps_values}
use Rattle.lf.proofs.TypeLaws.{skeleton_renamed}
use Rattle.lf_cases.specs.Case.{Item, free_variable, block_variable, Case, items_context, as_term}
use Rattle.lf_cases.specs.Missing.{AreTypedItems, put_in}
use Rattle.lf_cases.specs.OutputGoal.{kept_terms}
use Rattle.lf_cases.specs.Pattern.{Pattern}
use Rattle.lf_coverage.specs.Leaf.{IsTypedPattern}
use Rattle.lf_coverage.specs.TypedCase.{TypedArguments, IsTypedBeside}
use Rattle.lf_coverage.proofs.Transfer.{have_more}
use Rattle.lf_numbered.specs.NumberedBesideGiven.{outside_terms, given_over}
use Rattle.lf_numbered.proofs.NumberedBesideAmong.{far}

-- In an extension terms take what they took.
module _ (S : ℕ → Bool) (Σ Σ' : Signature) (x : Extends S Σ Σ') (W : List Block) where
  items_more : (I : List Item) → AreTypedItems Σ W I → AreTypedItems Σ' W I
  items_more [] t = tt
  items_more (free_variable A ∷ I) (t, a) = (items_more I t, extension_keeps_types S Σ Σ' x (items_context I) A a)
  items_more (block_variable B υ ∷ I) (t, m, v) = (items_more I t, m, extension_keeps_values S Σ Σ' x everything B.some (items_context I) υ v)

  pub arguments_more : (G : List LfType) (Ms : List (Option Term)) (T : Spine) (K : Kind) → TypedArguments Σ G Ms T K → TypedArguments Σ' G Ms T K
  arguments_more G [] nil star h = h
  arguments_more G [] nil (kind_pi A K) h = absurd h
  arguments_more G [] (app N T) K h = absurd h
  arguments_more G (Some M ∷ Ms) nil K h = absurd h
  arguments_more G (None ∷ Ms) nil K h = absurd h
  arguments_more G (Some M ∷ Ms) (app N T) star h = absurd h
  arguments_more G (None ∷ Ms) (app N T) star h = absurd h
  arguments_more G (Some M ∷ Ms) (app N T) (kind_pi A K) (m, h) = (extension_keeps_typing S Σ Σ' x G M A m, arguments_more G Ms T (instantiate_kind A M K) h)
  arguments_more G (None ∷ Ms) (app N T) (kind_pi A K) h = arguments_more G Ms T (instantiate_kind A N K) h

  pub beside_more : (C : Case) (p : Pattern) → ((a : ℕ) (K : Kind) → Σ.kinds a ≡ Some K → Σ'.kinds a ≡ Some K) → IsTypedBeside Σ W C p → IsTypedBeside Σ' W C p
  beside_more C p kinds b = record {
    by_skeletons = record { items = items_more C.items b.by_skeletons.items; given = have_more S Σ Σ' x _ C.given b.by_skeletons.given; arguments = have_more S Σ Σ' x _ C.arguments b.by_skeletons.arguments };
    local_typed = extension_keeps_contexts S Σ Σ' x _ b.local_typed;
    same_family = b.same_family;
    kind = b.kind;
    of_family = kinds C.family b.kind b.of_family;
    given = extension_keeps_values S Σ Σ' x _ _ _ _ b.given;
    local = b.local;
    arguments = arguments_more _ C.arguments _ b.kind b.arguments;
  }

  pub pattern_more : (p : Pattern) → IsTypedPattern Σ p → IsTypedPattern Σ' p
  pattern_more p t = record { outer_typed = extension_keeps_contexts S Σ Σ' x _ t.outer_typed; clause_typed = extension_keeps_contexts S Σ Σ' x _ t.clause_typed; type_typed = extension_keeps_types S Σ Σ' x _ _ t.type_typed }

-- The given terms with those of what stands outside behind them
module _ (ι : ℕ → Image) where
  pub over_put : (D O : List LfType) (U : ℕ → Bool) (r : ℕ → ℕ) (Ns : List (Option Term)) → put_in ι (kept_terms (λ k. U (far D k)) O (λ k. r (far D k))) ≡ Ns → given_over D (put_in ι (kept_terms U D r)) Ns ≡ put_in ι (kept_terms U (onto D O) r)
  over_put [] O U r Ns e = sym e
  over_put (A ∷ D) O U r Ns e = by (U zero) (over_put D O (λ i. U (suc i)) (λ i. r (suc i)) Ns e)
    where
      by : (b : Bool) → given_over D (put_in ι (kept_terms (λ i. U (suc i)) D (λ i. r (suc i)))) Ns ≡ put_in ι (kept_terms (λ i. U (suc i)) (onto D O) (λ i. r (suc i))) → given_over (A ∷ D) (put_in ι (cond b (Some (eta_long (skeleton A) (variable (r zero)))) None ∷ kept_terms (λ i. U (suc i)) D (λ i. r (suc i)))) Ns ≡ put_in ι (cond b (Some (eta_long (skeleton A) (variable (r zero)))) None ∷ kept_terms (λ i. U (suc i)) (onto D O) (λ i. r (suc i)))
      by true h = ap (λ Ms. Some (substitute reduce ι (eta_long (skeleton A) (variable (r zero)))) ∷ Ms) h
      by false h = ap (λ Ms. None ∷ Ms) h

  pub outside_put : (O : List LfType) (U : ℕ → Bool) (r : ℕ → ℕ) (φ : ℕ → Image) → ((k : ℕ) → U k ≡ true) → ((k : ℕ) (A : LfType) → TypeAt O k A → substitute reduce ι (eta_long (skeleton A) (variable (r k))) ≡ as_term (skeleton A) (φ k)) → put_in ι (kept_terms U O r) ≡ outside_terms O φ
  outside_put [] U r φ u h = refl
  outside_put (A ∷ O) U r φ u h =
      ap (λ b. put_in ι (cond b (Some (eta_long (skeleton A) (variable (r zero)))) None ∷ kept_terms (λ i. U (suc i)) O (λ i. r (suc i)))) (u zero)
      ∙ ap₂ (λ M Ms. Some M ∷ Ms) (subst (λ a. substitute reduce ι (eta_long a (variable (r zero))) ≡ as_term a (φ zero)) (skeleton_renamed suc A) (h zero (rename_type suc A) refl)) (outside_put O (λ i. U (suc i)) (λ i. r (suc i)) (λ i. φ (suc i)) (λ k. u (suc k)) (λ k B g. subst (λ a. substitute reduce ι (eta_long a (variable (r (suc k)))) ≡ as_term a (φ (suc k))) (skeleton_renamed suc B) (h (suc k) (rename_type suc B) (B, g, refl))))
