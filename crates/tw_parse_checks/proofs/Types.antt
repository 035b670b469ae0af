-- Where a type stops.
use Rattle.std.proofs.Common.{◌≡◌, List, [], ◌∷◌, ◌++◌, true, false, Option, None, Some, refl, sym, ap, subst, ◌∙◌, ◌⊎◌, inl, inr, append_assoc}
use Rattle.tw_lexer.specs.declared.place.Place.{Place}
use Rattle.tw_parse.specs.Failing.{ended, is_item, StopsIn}
use Rattle.tw_parse.specs.Outlines.{Table, Outline, Sequence}
use Rattle.tw_parse.specs.Spots.{Frame, domain, Spot, inside, go, next, steps}
use Rattle.tw_parse.specs.Words.{Lexeme, first_word, first_place}
use Rattle.tw_parse.specs.declared.words.Binder.TheVariants.{Pi}
use Rattle.tw_parse.specs.declared.words.Word.{Word}
use Rattle.tw_parse.specs.declared.words.Word.TheVariants.{Name, Forward, Backward, Underscore, Star, Equals, Keyword, Colon, Dot, LParen, RParen, LBrace, RBrace, LBracket, RBracket, End}
use Rattle.tw_parse.proofs.Failing.{a_word, at_end, ended_behind}
use Rattle.tw_parse.proofs.OneOutline.{SameSequence, sequence_once}
use Rattle.tw_parse.proofs.Ports.{on, port_sequence}
use Rattle.tw_parse_checks.specs.Faults.{Fills, CanFill, FillingStopsAt}

-- in the braces of a quantified variable
abbrev braced : List Frame
braced = domain Pi ∷ []

-- a type and its brace leave them
fills_through : (table : Table) (tokens : List Lexeme) (U : Outline) → Fills table tokens U → steps (Some (inside false, braced)) tokens ≡ Some (inside false, [])
fills_through table tokens U f =
    let i = port_sequence table f.2 in
    ap (steps (Some (inside false, braced))) i.split ∙ on (Some (inside false, braced)) (Some (inside true, braced)) i.front (f.0 ∷ []) (i.goes braced) ∙ ap (go true braced) f.1

none_stays : (xs : List Lexeme) → steps None xs ≡ None
none_stays [] = refl
none_stays (x ∷ xs) = refl

-- the reader is still in the braces and can't go on
stops : (table : Table) (end place : Place) (tokens before : List Lexeme) (x : Lexeme) (more : List Lexeme) (spot : Spot) (frames : List Frame) → ended end tokens ≡ before ++ x ∷ more → place ≡ x.at → CanFill table before
    → steps (Some (inside false, braced)) before ≡ Some (spot, frames) → next spot frames x.word ≡ None → (frames ≡ [] → ⊥) → FillingStopsAt table end tokens place
stops table end place tokens before x more spot frames is at can goes dies room = (before, x, more, is, at, can, dead, within)
  where
    dead : CanFill table (before ++ x ∷ []) → ⊥
    dead c =
        let none : steps (Some (inside false, braced)) ((before ++ x ∷ []) ++ c.0) ≡ None =
        ap (steps (Some (inside false, braced))) (append_assoc before (x ∷ []) c.0) ∙ on (Some (inside false, braced)) (Some (spot, frames)) before (x ∷ c.0) goes ∙ ap (λ o. steps o c.0) dies ∙ none_stays c.0 in
        let clash : ◌≡◌ {A = Option (Spot × List Frame)} None (Some (inside false, [])) = sym none ∙ fills_through table ((before ++ x ∷ []) ++ c.0) c.1 c.2 in
        cc

    within : (U : Outline) → Fills table before U → ⊥
    within U f =
        let same : ◌≡◌ {A = Option (Spot × List Frame)} (Some (spot, frames)) (Some (inside false, [])) = sym goes ∙ fills_through table before U f in
        let pair : ◌≡◌ {A = Spot × List Frame} (spot, frames) (inside false, []) = cc in
        room (ap (λ (p : Spot × List Frame). p.1) pair)

no_room : (frames : List Frame) → frames ++ braced ≡ [] → ⊥
no_room [] e = cc
no_room (f ∷ frames) e = cc

-- the sequence of a type stops
pub filling_stops : (table : Table) (end place : Place) (tokens : List Lexeme) → StopsIn table end tokens place → FillingStopsAt table end tokens place
filling_stops table end place tokens s =
    let d = s.6 in
    let c : Lexeme = a_word end RBrace in
    let o = s.5.1 (c ∷ []) in
    stops table end place tokens s.0 s.1 s.2 d.0 (d.1 ++ braced) s.3 s.4 (s.5.0 ++ c ∷ [], o.0, (c, refl, o.1)) (d.2 braced) (d.3 braced) (no_room d.1)

no_brace : (w : Word) → is_item w ≡ false → (w ≡ RBrace → ⊥) → go true braced w ≡ None
no_brace Name e n = cc
no_brace Forward e n = cc
no_brace Backward e n = cc
no_brace Underscore e n = cc
no_brace Star e n = cc
no_brace Equals e n = refl
no_brace Keyword e n = refl
no_brace Colon e n = cc
no_brace Dot e n = refl
no_brace LParen e n = cc
no_brace RParen e n = refl
no_brace LBrace e n = cc
no_brace RBrace e n = absurd (n refl)
no_brace LBracket e n = cc
no_brace RBracket e n = refl
no_brace End e n = refl

-- a wrong token stands behind it
pub stops_behind : (table : Table) (end place : Place) (tokens left : List Lexeme) (O : Outline) → Sequence table tokens O left → is_item (first_word left) ≡ false → (first_word left ≡ RBrace → ⊥) → place ≡ first_place end left → FillingStopsAt table end tokens place
stops_behind table end place tokens left O s isnt wrong is =
    let i = port_sequence table s in
    let y = at_end end left in
    let c : Lexeme = a_word end RBrace in
    stops table end place tokens i.front y.0 y.1 (inside true) braced (ended_behind end tokens i.front left i.split ∙ ap (λ ts. i.front ++ ts) y.2) (is ∙ y.3) (c ∷ [], O, (c, refl, i.anew (c ∷ []))) (i.goes braced)
    (no_brace y.0.word (ap is_item y.4 ∙ isnt) (λ e. wrong (sym y.4 ∙ e))) (λ e. cc)

-- Whole types

-- of two beginnings of a list one is a beginning of the other
compare : (us vs xs ys : List Lexeme) (y : Lexeme) → us ++ xs ≡ vs ++ y ∷ ys → ((t : List Lexeme) × (us ≡ vs ++ y ∷ t)) ⊎ ((t : List Lexeme) × (vs ≡ us ++ t))
compare [] vs xs ys y e = inr (vs, refl)
compare (u ∷ us) [] xs ys y e = let same : u ≡ y = cc in inl (us, ap (λ (z : Lexeme). z ∷ us) same)
compare (u ∷ us) (v ∷ vs) xs ys y e =
    let same : v ≡ u = cc in
    let tails : us ++ xs ≡ vs ++ y ∷ ys = cc in
    elim (compare us vs xs ys y tails) [
      | inl found ↦ inl (found.0, ap (λ (z : Lexeme). z ∷ us) (sym same) ∙ ap (λ (ts : List Lexeme). v ∷ ts) found.1)
      | inr found ↦ inr (found.0, ap (λ (z : Lexeme). z ∷ vs) same ∙ ap (λ (ts : List Lexeme). u ∷ ts) found.1)
    ]

nothing_left : (xs ys : List Lexeme) → xs ++ ys ≡ [] → xs ≡ []
nothing_left [] ys e = refl
nothing_left (x ∷ xs) ys e = cc

append_none : (xs : List Lexeme) → xs ++ [] ≡ xs
append_none [] = refl
append_none (x ∷ xs) = ap (λ (ts : List Lexeme). x ∷ ts) (append_none xs)

-- a type with its brace doesn't stop
pub whole_type : (table : Table) (end place : Place) (type rest : List Lexeme) (closer : Lexeme) (U : Outline) → Sequence table type U (closer ∷ rest) → closer.word ≡ RBrace → FillingStopsAt table end type place → ⊥
whole_type table end place type rest closer U s closes f =
    let i = port_sequence table s in
    let whole : List Lexeme = i.front ++ closer ∷ [] in
    let fills : Fills table whole U = (closer, closes, i.anew (closer ∷ [])) in
    let all : whole ++ ended end rest ≡ f.0 ++ f.1 ∷ f.2 = append_assoc i.front (closer ∷ []) (ended end rest) ∙ sym (ended_behind end type i.front (closer ∷ rest) i.split) ∙ f.3 in
    elim (compare whole f.0 (ended end rest) f.2 f.1 all) [
      | inl found ↦ f.6 (found.0, U, subst (λ (ts : List Lexeme). Fills table ts U) (found.1 ∙ sym (append_assoc f.0 (f.1 ∷ []) found.0)) fills)
      | inr found ↦
          let c = f.5 in
          let further : List Lexeme = found.0 ++ c.0 in
          let split : f.0 ++ c.0 ≡ i.front ++ closer ∷ further = ap (λ (ts : List Lexeme). ts ++ c.0) found.1 ∙ append_assoc whole found.0 c.0 ∙ append_assoc i.front (closer ∷ []) further in
          let other : Sequence table (i.front ++ closer ∷ further) c.1 (c.2.0 ∷ []) = subst (λ (ts : List Lexeme). Sequence table ts c.1 (c.2.0 ∷ [])) split c.2.2 in
          let same : SameSequence U c.1 (closer ∷ further) (c.2.0 ∷ []) = sequence_once table (i.anew (closer ∷ further)) c.1 (c.2.0 ∷ []) other (ap is_item closes) (ap is_item c.2.1) in
          let rests : closer ∷ further ≡ c.2.0 ∷ [] = same.rests in
          let gone : further ≡ [] = cc in
          let none : found.0 ≡ [] = nothing_left found.0 c.0 gone in
          f.7 U (subst (λ (ts : List Lexeme). Fills table ts U) (sym (found.1 ∙ ap (λ (ts : List Lexeme). whole ++ ts) none ∙ append_none whole)) fills)
    ]
