-- How many arguments a typed head has.
use Rattle.std.proofs.Common.{◌≡◌, ℕ, suc, List, [], ◌∷◌, length, refl, sym, ap, ◌∙◌}
use Rattle.lf.specs.Entries.{quantifiers, kind_quantifiers}
use Rattle.lf.specs.Syntax.{Spine, nil, app, LfType, pi, atom, Kind, kind_pi, star, skeleton}
use Rattle.lf.specs.Substitution.{Image, lift, single, substitute_type, substitute_kind, reduce}
use Rattle.lf.specs.Typing.{Signature, SpineType, SpineFitsKind, instantiate_type, instantiate_kind}
use Rattle.tw_print.specs.Arguments.{Argument, arguments, spine_length}
use Rattle.tw_fixity.specs.Names.{Names as Scope}
use Rattle.tw_print.specs.Names.{Scene}
use Rattle.law_reading_back.specs.Legible.{count}
use Rattle.law_reading_back.specs.Sketches.{Hand, sketches}

substituted : (σ : ℕ → Image) (A : LfType) → quantifiers (substitute_type reduce σ A) ≡ quantifiers A
substituted σ (pi A B) = ap suc (substituted (lift σ) B)
substituted σ (atom a S) = refl

substituted_kind : (σ : ℕ → Image) (K : Kind) → kind_quantifiers (substitute_kind reduce σ K) ≡ kind_quantifiers K
substituted_kind σ (kind_pi A K) = ap suc (substituted_kind (lift σ) K)
substituted_kind σ star = refl

pub full : (Σ : Signature) (G : List LfType) (S : Spine) (A : LfType) (a : ℕ) (T : Spine) → SpineType Σ G S A (atom a T) → spine_length S ≡ quantifiers A
full Σ G nil A a T e = sym (ap quantifiers e)
full Σ G (app M S) (pi A B) a T (m, s) = ap suc (full Σ G S (instantiate_type A M B) a T s ∙ substituted (single (skeleton A) M) B)
full Σ G (app M S) (atom b U) a T s = absurd s

pub full_kind : (Σ : Signature) (G : List LfType) (S : Spine) (K : Kind) → SpineFitsKind Σ G S K → spine_length S ≡ kind_quantifiers K
full_kind Σ G nil (kind_pi A K) s = absurd s
full_kind Σ G nil star s = refl
full_kind Σ G (app M S) (kind_pi A K) (m, s) = ap suc (full_kind Σ G S (instantiate_kind A M K) s ∙ substituted_kind (single (skeleton A) M) K)
full_kind Σ G (app M S) star s = absurd s

pub count_sketches : (p : Hand) (s : Scene) (G : List LfType) (ns : Scope) (xs : List Argument) → count (sketches p s G ns xs) ≡ length xs
count_sketches p s G ns [] = refl
count_sketches p s G ns (a ∷ xs) = ap suc (count_sketches p s G ns xs)

pub count_arguments : (A : LfType) (S : Spine) → length (arguments A S) ≡ spine_length S
count_arguments A nil = refl
count_arguments (pi A B) (app M S) = ap suc (count_arguments (instantiate_type A M B) S)
count_arguments (atom a T) (app M S) = ap suc (count_arguments (atom a T) S)
