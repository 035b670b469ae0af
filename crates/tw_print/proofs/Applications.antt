-- Layouts, as the code writes them.
use Rattle.std.proofs.Common.{◌≡◌, ℕ, zero, suc, ◌+◌, ◌<◌, ◌≤◌, List, [], ◌∷◌, ◌++◌, length, map, take, ◌-◌, drop, get_or, Some, refl, sym, ap, ◌∙◌, subst, arith, drop-cons, add-one}
use Rattle.std.proofs.lemmas.Bool.{le-leb, lt-leb, cond-true, cond-false}
use Rattle.std.proofs.lemmas.List.{length-drop, length-map}
use Rattle.std.proofs.Math.Seq.{take-length}
use Rattle.lf.specs.Syntax.{LfType}
use Rattle.lf.specs.Typing.{Signature}
use Rattle.tw_fixity.specs.declared.table.Assoc.{Assoc}
use Rattle.tw_fixity.specs.declared.table.Fix.{Fix}
use Rattle.tw_fixity.specs.declared.table.Fix.TheVariants.{Infix, Prefix, Postfix}
use Rattle.tw_print.specs.Pieces.{Piece, token, space, in_parentheses}
use Rattle.tw_fixity.specs.Names.{Names as Scope}
use Rattle.tw_print.specs.Names.{Scene}
use Rattle.tw_print.specs.Arguments as spec
use Rattle.tw_print.specs.ArgumentView.{argument_of}
use Rattle.tw_print.specs.Showable.{IsShowable, AreShowable}
use Rattle.tw_print.specs.Shown.{Parts, operand_count, operand, spaced, followed, operation, application, plain_application}
use Rattle.tw_print.specs.declared.arguments.Argument.{Argument}

module _ (p : Parts) (s : Scene) (G : List LfType) (ns : Scope) (word : List ℕ) where
  pub too_few : (fix : Fix) (xs : List spec.Argument) → length xs < operand_count fix → application p s G ns word (Some fix) xs ≡ plain_application p s G ns word xs
  too_few fix xs h = cond-false _ _ _ (lt-leb (operand_count fix) (length xs) h)

  nothing_follows : (ps : List Piece) (xs : List spec.Argument) → length xs ≡ 0 → followed p s G ns ps xs ≡ ps
  nothing_follows ps [] h = refl
  nothing_follows ps (x ∷ xs) h = absurd (omega (arith, h))

  more_follows : (ps : List Piece) (xs : List spec.Argument) → 0 < length xs → followed p s G ns ps xs ≡ in_parentheses ps ++ spaced p s G ns xs
  more_follows ps [] h = absurd (omega (arith, h))
  more_follows ps (x ∷ xs) h = refl

  pub just_enough : (fix : Fix) (xs : List spec.Argument) → length xs ≡ operand_count fix → application p s G ns word (Some fix) xs ≡ operation p s G ns word fix xs
  just_enough fix xs h =
      cond-true _ _ _ (le-leb (operand_count fix) (length xs) (omega (arith, h)))
      ∙ nothing_follows (operation p s G ns word fix xs) (drop (operand_count fix) xs) (let l = length-drop (operand_count fix) xs in omega (arith, l, h))

  pub more_than_enough : (fix : Fix) (xs : List spec.Argument) → operand_count fix < length xs → application p s G ns word (Some fix) xs ≡ in_parentheses (operation p s G ns word fix xs) ++ spaced p s G ns (drop (operand_count fix) xs)
  more_than_enough fix xs h =
      cond-true _ _ _ (le-leb (operand_count fix) (length xs) (omega (arith, h)))
      ∙ more_follows (operation p s G ns word fix xs) (drop (operand_count fix) xs) (let l = length-drop (operand_count fix) xs in omega (arith, l, h))

  pub infix_written : (a : Assoc) (n : ℕ) (xs : List Argument) (x y : Argument) → 2 ≤ length xs → x ≡ get_or xs 0 x → y ≡ get_or xs 1 y
      → operand p s G ns (argument_of x) ++ (space ∷ token word ∷ space ∷ operand p s G ns (argument_of y)) ≡ operation p s G ns word (Infix a n) (map argument_of xs)
  infix_written a n [] x y h e f = absurd (omega (arith, h))
  infix_written a n (b ∷ []) x y h e f = absurd (omega (arith, h))
  infix_written a n (b ∷ c ∷ xs) x y h e f = ap (λ z. operand p s G ns (argument_of z) ++ (space ∷ token word ∷ space ∷ operand p s G ns (argument_of y))) e ∙ ap (λ z. operand p s G ns (argument_of b) ++ (space ∷ token word ∷ space ∷ operand p s G ns (argument_of z))) f

  pub prefix_written : (n : ℕ) (xs : List Argument) (x : Argument) → 1 ≤ length xs → x ≡ get_or xs 0 x → token word ∷ space ∷ operand p s G ns (argument_of x) ≡ operation p s G ns word (Prefix n) (map argument_of xs)
  prefix_written n [] x h e = absurd (omega (arith, h))
  prefix_written n (b ∷ xs) x h e = ap (λ z. token word ∷ space ∷ operand p s G ns (argument_of z)) e

  pub postfix_written : (n : ℕ) (xs : List Argument) (x : Argument) → 1 ≤ length xs → x ≡ get_or xs 0 x → operand p s G ns (argument_of x) ++ (space ∷ token word ∷ []) ≡ operation p s G ns word (Postfix n) (map argument_of xs)
  postfix_written n [] x h e = absurd (omega (arith, h))
  postfix_written n (b ∷ xs) x h e = ap (λ z. operand p s G ns (argument_of z) ++ (space ∷ token word ∷ [])) e

-- the first of the arguments that are left
pub arguments_at : (xs : List Argument) (i : ℕ) (x : Argument) → i < length xs → x ≡ get_or xs i x → map argument_of (drop i xs) ≡ argument_of x ∷ map argument_of (drop (i + 1) xs)
arguments_at xs i x h e = rw (add-one, drop-cons xs i x) (ap (λ y. argument_of y ∷ map argument_of (drop (suc i) xs)) (sym e))

pub map-drop : (n : ℕ) (xs : List Argument) → map argument_of (drop n xs) ≡ drop n (map argument_of xs)
map-drop zero xs = refl
map-drop (suc n) [] = refl
map-drop (suc n) (x ∷ xs) = map-drop n xs

pub showable_at : (Σ : Signature) (G : List LfType) (xs : List Argument) (i : ℕ) (x : Argument) → i < length xs → x ≡ get_or xs i x → AreShowable Σ G (map argument_of xs) → IsShowable Σ G (argument_of x).0 (argument_of x).1
showable_at Σ G [] i x h e k = absurd (omega (arith, h))
showable_at Σ G (y ∷ xs) zero x h e (k, l) = subst (λ z. IsShowable Σ G (argument_of z).0 (argument_of z).1) (sym e) k
showable_at Σ G (y ∷ xs) (suc i) x h e (k, l) = showable_at Σ G xs i x (omega (arith, h)) e l

-- the number of arguments
pub count_mapped : (xs : List Argument) → length (map argument_of xs) ≡ length xs
count_mapped xs = length-map xs argument_of

all_of : (ys : List Argument) (k : ℕ) → k ≡ length ys → take k ys ≡ ys
all_of ys k e = ap (λ n. take n ys) e ∙ take-length ys

-- the arguments behind the operands
pub rest_of : (xs : List Argument) (n m : ℕ) → n ≡ m → n ≤ length xs → map argument_of (take (length xs - n) (drop n xs)) ≡ drop m (map argument_of xs)
rest_of xs n m e h =
    ap (map argument_of) (all_of (drop n xs) (length xs - n) (sym (length-drop n xs))) ∙ map-drop n xs ∙ ap (λ k. drop k (map argument_of xs)) e

-- the arguments that are shown
pub shown_by : (xs ys zs : List Argument) (n m : ℕ) (as' : List spec.Argument) → ys ≡ xs → zs ≡ drop n ys → n ≡ m → map argument_of xs ≡ as' → map argument_of zs ≡ drop m as'
shown_by xs ys zs n m as' e f g h = ap (map argument_of) f ∙ map-drop n ys ∙ ap (λ k. drop k (map argument_of ys)) g ∙ ap (λ us. drop m (map argument_of us)) e ∙ ap (drop m) h
