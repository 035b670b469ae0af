-- What the calls of the walk answer, joined.
use Rattle.std.proofs.Common.{◌≡◌, List, Option, None, Some, option_map, sym, ap, ◌∙◌}
use Rattle.lf.specs.Syntax.{Skeleton}
use Rattle.tw_approx.specs.Readings.{Reading, found, and_then}
use Rattle.tw_fixity.specs.Names.{Names}
use Rattle.tw_resolve.specs.Resolving.{with_both}

-- what a call answers, where it gives a value and where it gives none
pub given : {P A : Type 0} (view : P → A) (o : Option P) (x : P) (p : List Skeleton) (r : Reading A) → o ≡ Some x → found (option_map view o) p ≡ r → Some (view x, p) ≡ r
given {P} view o x p r e h = ap (λ (y : Option P). found (option_map view y) p) (sym e) ∙ h

pub missing : {P A : Type 0} (view : P → A) (o : Option P) (p : List Skeleton) (r : Reading A) → o ≡ None → found (option_map view o) p ≡ r → None ≡ r
missing {P} view o p r e h = ap (λ (y : Option P). found (option_map view y) p) (sym e) ∙ h

-- two calls, one behind the other
pub both_given : {P Q A B C : Type 0} (view : P → A) (see : Q → B) (make : A → B → List Skeleton → Reading C) (r : Reading A) (f : List Skeleton → Reading B) (o : Option P) (x : P) (p : List Skeleton) (u : Option Q) (y : Q) (q : List Skeleton)
    → o ≡ Some x → found (option_map view o) p ≡ r → u ≡ Some y → found (option_map see u) q ≡ f p → make (view x) (see y) q ≡ with_both make r f
both_given {P} {Q} {A} {B} view see make r f o x p u y q e h g k =
    ap (λ (s : Reading B). and_then s (make (view x))) (given see u y q (f p) g k) ∙ ap (λ (s : Reading A). with_both make s f) (given view o x p r e h)

pub second_missing : {P Q A B C : Type 0} (view : P → A) (see : Q → B) (make : A → B → List Skeleton → Reading C) (r : Reading A) (f : List Skeleton → Reading B) (o : Option P) (x : P) (p : List Skeleton) (u : Option Q) (q : List Skeleton)
    → o ≡ Some x → found (option_map view o) p ≡ r → u ≡ None → found (option_map see u) q ≡ f p → None ≡ with_both make r f
second_missing {P} {Q} {A} {B} view see make r f o x p u q e h g k =
    ap (λ (s : Reading B). and_then s (make (view x))) (missing see u q (f p) g k) ∙ ap (λ (s : Reading A). with_both make s f) (given view o x p r e h)

-- the same call where the names are the same
pub with_names : {X : Type 0} (R : Names → Names → X) (f g n m : Names) → f ≡ g → n ≡ m → R f n ≡ R g m
with_names R f g n m e h = ap (λ (x : Names). R x n) e ∙ ap (R g) h
