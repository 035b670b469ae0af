-- The bytes of a layout, and what they say of its sketch: where each is a byte, nothing is cut off.
use Rattle.std.proofs.Common.{◌≡◌, ℕ, ◌≤◌, List, [], ◌∷◌, ◌++◌, length, drop, Bool, true, false, cond, Option, Some, None, refl, arith}
use Rattle.std.specs.Prelude.{nat_le, codes}
use Rattle.std.proofs.lemmas.Bool.Decides.{nat_tests}
use Rattle.tw_fixity.specs.declared.table.Fix.{Fix}
use Rattle.tw_fixity.specs.declared.table.Fix.TheVariants.{Infix, Prefix, Postfix}
use Rattle.tw_print.specs.Pieces.{Piece, token, space, render, in_parentheses}
use Rattle.tw_print.specs.Shown.{operand_count}
use Rattle.law_reading_back.specs.Layout.{Part, as_argument, as_operand, argument, operand, spaced, plain, operated, followed, laid, bracketed, pieces, parts, line, definition_line}
use Rattle.law_reading_back.specs.Legible.{IsWhole, AreWhole}
use Rattle.law_reading_back.specs.Names.{EachIs, IsByte, IsPlainByte}
use Rattle.law_reading_back.specs.Sketches.{Manner, alone, row, operation, Sketch, Sketches, applied, arrow, quantified, abstracted, kind, too_deep, untyped, none, more}

le_of_test : (n m : ℕ) → nat_le n m ≡ true → n ≤ m
le_of_test n m h = grind (arith, nat_tests)

-- for bytes of one kind
module _ (P : ℕ → Type 0) where
  -- the pieces have such bytes
  abbrev pub AreBytes : List Piece → Type 0
  AreBytes [] = Unit {0}
  AreBytes (space ∷ ps) = AreBytes ps
  AreBytes (token t ∷ ps) = EachIs P t × AreBytes ps

  pub each_parts : (xs ys : List ℕ) → EachIs P (xs ++ ys) → EachIs P xs × EachIs P ys
  each_parts [] ys h = (tt, h)
  each_parts (x ∷ xs) ys (h, k) = let r = each_parts xs ys k in ((h, r.0), r.1)

  pub bytes_of : (ps : List Piece) → EachIs P (render ps) → AreBytes ps
  bytes_of [] h = tt
  bytes_of (space ∷ ps) h = bytes_of ps h.1
  bytes_of (token t ∷ ps) h = let r = each_parts t (render ps) h in (r.0, bytes_of ps r.1)

  pub both : (ps qs : List Piece) → AreBytes (ps ++ qs) → AreBytes ps × AreBytes qs
  both [] qs h = (tt, h)
  both (space ∷ ps) qs h = both ps qs h
  both (token t ∷ ps) qs (h, k) = let r = both ps qs k in ((h, r.0), r.1)

  abbrev pub AllBytes : List Part → Type 0
  AllBytes [] = Unit {0}
  AllBytes (a ∷ xs) = AreBytes a.pieces × AllBytes xs

  pub within : (ps : List Piece) → AreBytes (in_parentheses ps) → AreBytes ps
  within ps (h, k) = (both ps (token (codes ")") ∷ []) k).0

  pub argument_bytes : (m : Manner) (ps : List Piece) → AreBytes (as_argument m ps) → AreBytes ps
  argument_bytes alone ps h = h
  argument_bytes row ps h = within ps h
  argument_bytes operation ps h = within ps h

  pub operand_bytes : (m : Manner) (ps : List Piece) → AreBytes (as_operand m ps) → AreBytes ps
  operand_bytes alone ps h = h
  operand_bytes row ps h = h
  operand_bytes operation ps h = within ps h

  pub spaced_bytes : (xs : List Part) → AreBytes (spaced xs) → AllBytes xs
  spaced_bytes [] h = tt
  spaced_bytes (a ∷ xs) h = let r = both (argument a) (spaced xs) h in (argument_bytes a.manner a.pieces r.0, spaced_bytes xs r.1)

  pub followed_bytes : (ps : List Piece) (xs : List Part) → AreBytes (followed ps xs) → AreBytes ps × AllBytes xs
  followed_bytes ps [] h = (h, tt)
  followed_bytes ps (a ∷ xs) h = let r = both (in_parentheses ps) (spaced (a ∷ xs)) h in (within ps r.0, spaced_bytes (a ∷ xs) r.1)

  -- a word and the parts behind it
  abbrev pub HasBytes : List ℕ → List Part → Type 0
  HasBytes w xs = EachIs P w × AllBytes xs

  pub operated_bytes : (w : List ℕ) (fix : Fix) (xs : List Part) → operand_count fix ≤ length xs → AreBytes (followed (operated w fix xs) (drop (operand_count fix) xs)) → HasBytes w xs
  operated_bytes w (Infix a n) (l ∷ r ∷ xs) o h =
      let p = followed_bytes (operated w (Infix a n) (l ∷ r ∷ xs)) xs h in
      let q = both (operand l) (space ∷ token w ∷ space ∷ operand r) p.0 in
      (q.1.0, (operand_bytes l.manner l.pieces q.0, (operand_bytes r.manner r.pieces q.1.1, p.1)))
  operated_bytes w (Infix a n) (l ∷ []) o h = absurd (omega (arith, o))
  operated_bytes w (Infix a n) [] o h = absurd (omega (arith, o))
  operated_bytes w (Prefix n) (x ∷ xs) o h =
      let p = followed_bytes (operated w (Prefix n) (x ∷ xs)) xs h in
      (p.0.0, (operand_bytes x.manner x.pieces p.0.1, p.1))
  operated_bytes w (Prefix n) [] o h = absurd (omega (arith, o))
  operated_bytes w (Postfix n) (x ∷ xs) o h =
      let p = followed_bytes (operated w (Postfix n) (x ∷ xs)) xs h in
      let q = both (operand x) (space ∷ token w ∷ []) p.0 in
      (q.1.0, (operand_bytes x.manner x.pieces q.0, p.1))
  operated_bytes w (Postfix n) [] o h = absurd (omega (arith, o))

  pub laid_bytes : (w : List ℕ) (fix : Option Fix) (xs : List Part) → AreBytes (laid w fix xs) → HasBytes w xs
  laid_bytes w None xs h = (h.0, spaced_bytes xs h.1)
  laid_bytes w (Some fix) xs h = by_test (nat_le (operand_count fix) (length xs)) refl h
    where
      by_test : (b : Bool) → nat_le (operand_count fix) (length xs) ≡ b → AreBytes (cond b (followed (operated w fix xs) (drop (operand_count fix) xs)) (plain w xs)) → HasBytes w xs
      by_test true e k = operated_bytes w fix xs (le_of_test (operand_count fix) (length xs) e) k
      by_test false e k = (k.0, spaced_bytes xs k.1)

  pub bracketed_bytes : (o x c : List ℕ) (ps qs : List Piece) → AreBytes (bracketed o x c ps ++ qs) → AreBytes ps × AreBytes qs
  bracketed_bytes o x c ps qs h =
      let r = both (bracketed o x c ps) qs h in
      let q = both ps (token c ∷ space ∷ []) r.0.1.1.1 in
      (q.0, r.1)

-- what is cut off has no bytes
no_byte : IsByte 256 → ⊥
no_byte h = omega (arith, h)

mutual
  whole_sketch : (t : Sketch) → AreBytes IsByte (pieces t) → IsWhole t
  whole_sketch (applied h w fix xs) b = whole_sketches xs (laid_bytes IsByte w fix (parts xs) b).1
  whole_sketch (arrow m t u) b =
      let r = both IsByte (as_operand m (pieces t) ++ space ∷ token (codes "->") ∷ space ∷ []) (pieces u) b in
      let q = both IsByte (as_operand m (pieces t)) (space ∷ token (codes "->") ∷ space ∷ []) r.0 in
      (whole_sketch t (operand_bytes IsByte m (pieces t) q.0), whole_sketch u r.1)
  whole_sketch (quantified x t u) b =
      let r = bracketed_bytes IsByte (codes "{") x (codes "}") (pieces t) (pieces u) b in
      (whole_sketch t r.0, whole_sketch u r.1)
  whole_sketch (abstracted x t u) b =
      let r = bracketed_bytes IsByte (codes "[") x (codes "]") (pieces t) (pieces u) b in
      (whole_sketch t r.0, whole_sketch u r.1)
  whole_sketch kind b = tt
  whole_sketch too_deep b = absurd (no_byte b.0.0)
  whole_sketch untyped b = tt

  whole_sketches : (ts : Sketches) → AllBytes IsByte (parts ts) → AreWhole ts
  whole_sketches none b = tt
  whole_sketches (more m t ts) (b, bs) = (whole_sketch t b, whole_sketches ts bs)

-- so it is in a line
pub whole_line : (name : List ℕ) (t : Sketch) → EachIs IsByte (render (line name t)) → IsWhole t
whole_line name t h =
    let r = both IsByte (token name ∷ space ∷ token (codes ":") ∷ space ∷ pieces t) (token (codes ".") ∷ []) (bytes_of IsByte (line name t) h) in
    whole_sketch t r.0.1.1

whole_bare : (name : List ℕ) (t u : Sketch) → AreBytes IsByte (definition_line false name t u) → IsWhole t × IsWhole u
whole_bare name t u h =
    let r = both IsByte (token name ∷ space ∷ token (codes ":") ∷ space ∷ pieces t) ((space ∷ token (codes "=") ∷ space ∷ pieces u) ++ token (codes ".") ∷ []) h in
    let q = both IsByte (space ∷ token (codes "=") ∷ space ∷ pieces u) (token (codes ".") ∷ []) r.1 in
    (whole_sketch t r.0.1.1, whole_sketch u q.0.1)

pub whole_definition : (b : Bool) (name : List ℕ) (t u : Sketch) → EachIs IsByte (render (definition_line b name t u)) → IsWhole t × IsWhole u
whole_definition false name t u h = whole_bare name t u (bytes_of IsByte (definition_line false name t u) h)
whole_definition true name t u h = whole_bare name t u (bytes_of IsByte (definition_line true name t u) h).1

-- bytes that are no percent signs are bytes
pub each_byte : (xs : List ℕ) → EachIs IsPlainByte xs → EachIs IsByte xs
each_byte [] h = tt
each_byte (x ∷ xs) (h, k) = (h.byte, each_byte xs k)

-- and so is a keyword in front of them
pub behind_keyword_bytes : (b : Bool) (ps : List Piece) → EachIs IsByte (render ps) → EachIs IsByte (render (cond b (token (codes "%abbrev") ∷ space ∷ []) [] ++ ps))
behind_keyword_bytes false ps h = h
behind_keyword_bytes true ps h = (omega arith, (omega arith, (omega arith, (omega arith, (omega arith, (omega arith, (omega arith, (omega arith, h))))))))
