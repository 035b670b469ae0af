-- Clauses of typed signatures and blocks fit, and what stands outside them.
use Rattle.std.proofs.Common.{◌≡◌, ℕ, zero, suc, ◌+◌, List, [], ◌∷◌, ◌++◌, Bool, true, false, Some, length, length-append, refl, sym, ap, ap₂, ◌∙◌, subst, arith}
use Rattle.std.specs.Prelude.{slice_get}
use Rattle.lf.specs.Entries.{Entry, IsCanonicalSignature, kind_quantifiers, signature_of}
use Rattle.lf.specs.Substitution.{Image, reduce, substitute_kind}
use Rattle.lf.specs.Syntax.{Spine, nil, app, LfType, Kind, kind_pi, star, pi, atom}
use Rattle.lf.specs.Typing.{Signature, IsContext, IsSignature, IsType, SpineFitsKind, instantiate_kind}
use Rattle.lf.specs.Variables.{everything, nothing, onto}
use Rattle.lf.proofs.Entries.{canonical_is_signature}
use Rattle.lf_checks.specs.Clause.{among, with_newest}
use Rattle.lf_checks.specs.ModeForms.{argument_count}
use Rattle.tw_mode.specs.Checks.{Fits}
use Rattle.tw_mode.specs.Scopes.{in_marks}
use Rattle.tw_mode.specs.Solved.{with_hidden, with_shown}
use Rattle.tw_mode.proofs.Sets.{pushed_set}
use mathlib.Core.Path.{fun_ext}

substituted_count : (σ : ℕ → Image) (K : Kind) → kind_quantifiers (substitute_kind reduce σ K) ≡ kind_quantifiers K
substituted_count σ (kind_pi A K) = ap suc (substituted_count _ K)
substituted_count σ star = refl

spine_count : (Σ : Signature) (G : List LfType) (S : Spine) (K : Kind) → SpineFitsKind Σ G S K → kind_quantifiers K ≡ argument_count S
spine_count Σ G nil (kind_pi A K) f = absurd f
spine_count Σ G nil star f = refl
spine_count Σ G (app M S) (kind_pi A K) (h, f) = ap suc (sym (substituted_count _ K) ∙ spine_count Σ G S (instantiate_kind A M K) f)
spine_count Σ G (app M S) star f = absurd f

typed_fits : (Σ : Signature) (G : List LfType) (A : LfType) → IsType Σ G A → Fits Σ A
typed_fits Σ G (pi A B) (a, b) = (typed_fits Σ G A a, typed_fits Σ (A ∷ G) B b)
typed_fits Σ G (atom a S) (K, e, f) = (K, e, spine_count Σ G S K f)

some_equal : (A B : LfType) → Some A ≡ Some B → A ≡ B
some_equal A B e = cc

pub entry_fits : (Σ : Signature) (C es : List LfType) (n : ℕ) (E : LfType) → IsContext Σ (onto es C) → slice_get es n ≡ Some E → Fits Σ E
entry_fits Σ C [] n E c e = absurd cc
entry_fits Σ C (A ∷ es) zero E (c, t) e = subst (Fits Σ) (some_equal A E e) (typed_fits Σ (onto es C) A t)
entry_fits Σ C (A ∷ es) (suc n) E (c, t) e = entry_fits Σ C es n E c e

pub constant_fits : (es : List Entry) (k : ℕ) (U : LfType) → IsCanonicalSignature es → (signature_of es).types k ≡ Some U → Fits (signature_of es) U
constant_fits es k U c e = let s : IsSignature (signature_of es) = canonical_is_signature es c in typed_fits (signature_of es) [] U (s.types_ok k U e)

-- Marks one behind the other.
pub shown_more : (ms : List Bool) (n : ℕ) → with_shown ms (suc n) ≡ with_shown ms n ++ true ∷ []
shown_more ms zero = refl
shown_more ms (suc n) = shown_more (ms ++ true ∷ []) n

hidden_more : (ms : List Bool) (n : ℕ) → with_hidden ms (suc n) ≡ with_hidden ms n ++ false ∷ []
hidden_more ms zero = refl
hidden_more ms (suc n) = hidden_more (ms ++ false ∷ []) n

pub shown_next : (xs ms ns : List Bool) (n : ℕ) → ms ≡ with_shown xs n → ns ≡ ms ++ true ∷ [] → ns ≡ with_shown xs (n + 1)
shown_next xs ms ns n e h = h ∙ ap (λ ys. ys ++ true ∷ []) e ∙ sym (shown_more xs n) ∙ ap (with_shown xs) (let q : suc n ≡ n + 1 = omega arith in q)

pub hidden_next : (xs ms ns : List Bool) (n : ℕ) → ms ≡ with_hidden xs n → ns ≡ ms ++ false ∷ [] → ns ≡ with_hidden xs (n + 1)
hidden_next xs ms ns n e h = h ∙ ap (λ ys. ys ++ false ∷ []) e ∙ sym (hidden_more xs n) ∙ ap (with_hidden xs) (let q : suc n ≡ n + 1 = omega arith in q)

pub shown_count : (ms : List Bool) (n : ℕ) → length (with_shown ms n) ≡ length ms + n
shown_count ms zero = omega arith
shown_count ms (suc n) = let k = shown_count (ms ++ true ∷ []) n in let l = length-append ms (true ∷ []) in omega (arith, k, l)

pub hidden_count : (ms : List Bool) (n : ℕ) → length (with_hidden ms n) ≡ length ms + n
hidden_count ms zero = omega arith
hidden_count ms (suc n) = let k = hidden_count (ms ++ false ∷ []) n in let l = length-append ms (false ∷ []) in omega (arith, k, l)

newest_none : with_newest false nothing ≡ nothing
newest_none = fun_ext at
  where
    at : (i : ℕ) → with_newest false nothing i ≡ nothing i
    at zero = refl
    at (suc i) = refl

newest_all : with_newest true everything ≡ everything
newest_all = fun_ext at
  where
    at : (i : ℕ) → with_newest true everything i ≡ everything i
    at zero = refl
    at (suc i) = refl

newest_among : (E : LfType) (es : List LfType) → with_newest true (among es) ≡ among (E ∷ es)
newest_among E es = fun_ext at
  where
    at : (i : ℕ) → with_newest true (among es) i ≡ among (E ∷ es) i
    at zero = refl
    at (suc i) = refl

none_set : (s : ℕ) → in_marks false s (with_hidden [] s) ≡ nothing
none_set zero = fun_ext (λ i. refl)
none_set (suc s) = ap (in_marks false (suc s)) (hidden_more [] s) ∙ pushed_set false false s (with_hidden [] s) (let k = hidden_count [] s in omega (arith, k)) ∙ ap (with_newest false) (none_set s) ∙ newest_none

none_among : nothing ≡ among []
none_among = fun_ext (λ i. refl)

-- the entries are fixed, and the `some` variables aren't
pub among_set : (s : ℕ) (es : List LfType) → in_marks false (s + length es) (with_shown (with_hidden [] s) (length es)) ≡ among es
among_set s [] = ap (λ n. in_marks false n (with_hidden [] s)) (let q : s + zero ≡ s = omega arith in q) ∙ none_set s ∙ none_among
among_set s (E ∷ es) =
    ap₂ (λ n xs. in_marks false n xs) (let q : s + suc (length es) ≡ suc (s + length es) = omega arith in q) (shown_more (with_hidden [] s) (length es))
    ∙ pushed_set false true (s + length es) (with_shown (with_hidden [] s) (length es)) (let k = shown_count (with_hidden [] s) (length es) in let l = hidden_count [] s in omega (arith, k, l))
    ∙ ap (with_newest true) (among_set s es)
    ∙ newest_among E es

-- all is ground
pub all_set : (n : ℕ) → in_marks true n (with_shown [] n) ≡ everything
all_set zero = fun_ext (λ i. refl)
all_set (suc n) = ap (in_marks true (suc n)) (shown_more [] n) ∙ pushed_set true true n (with_shown [] n) (let k = shown_count [] n in omega (arith, k)) ∙ ap (with_newest true) (all_set n) ∙ newest_all
