-- In the layout of a legible sketch a space or a mark stands between two words.
use Rattle.std.proofs.Common.{◌≡◌, ℕ, List, [], ◌∷◌, ◌++◌, length, drop, Bool, true, false, cond, Option, Some, None, refl, sym, ◌∙◌, subst, inl, inr, append_assoc}
use Rattle.std.specs.Prelude.{nat_le, codes}
use Rattle.std.specs.Char.{encode_utf8}
use Rattle.tw_fixity.specs.declared.table.Fix.{Fix}
use Rattle.tw_fixity.specs.declared.table.Fix.TheVariants.{Infix, Prefix, Postfix}
use Rattle.tw_parse.specs.Outlines.{Table}
use Rattle.tw_print.specs.Pieces.{Piece, token, space, in_parentheses}
use Rattle.tw_print.specs.Shown.{operand_count}
use Rattle.law_reading_back.specs.Layout.{Part, as_argument, as_operand, argument, operand, spaced, plain, operated, followed, laid, bracketed, pieces, parts}
use Rattle.law_reading_back.specs.Legible.{IsLegible, AreLegible}
use Rattle.law_reading_back.specs.Names.{IsName}
use Rattle.law_reading_back.specs.Sketches.{Manner, alone, row, operation, Sketch, Sketches, applied, arrow, quantified, abstracted, kind, too_deep, untyped, none, more}
use Rattle.law_reading_back.proofs.Lexing.{IsWord, Sign, colon, open_paren, close_paren, open_brace, close_brace, open_bracket, close_bracket, byte_of, IsSpaced}

pub word_of_name : (x : List ℕ) → IsName x → IsWord x
word_of_name x n = record { first = n.first; others = n.others; spelled = n.spelled; plain = n.plain }

pub looser : (qs : List Piece) → IsSpaced true qs → IsSpaced false qs
looser [] h = h
looser (space ∷ qs) h = h
looser (token t ∷ qs) (inl h) = inl h
looser (token t ∷ qs) (inr (w, e, h)) = absurd cc

-- well spaced, whatever follows that may follow a word
abbrev pub Flows : List Piece → Type 0
Flows ps = (qs : List Piece) → IsSpaced true qs → IsSpaced false (ps ++ qs)

-- the same behind a word
abbrev pub FlowsOn : List Piece → Type 0
FlowsOn ps = (qs : List Piece) → IsSpaced true qs → IsSpaced true (ps ++ qs)

mark : (b : Bool) (m : Sign) (t : List ℕ) (qs : List Piece) → t ≡ byte_of m ∷ [] → IsSpaced false qs → IsSpaced b (token t ∷ qs)
mark b m t qs e h = inl (m, e, h)

pub word : (t : List ℕ) → IsWord t → Flows (token t ∷ [])
word t w qs h = inr (w, refl, h)

parenthesised : (ps : List Piece) → Flows ps → Flows (in_parentheses ps)
parenthesised ps f qs h =
    inl (open_paren, refl, subst (IsSpaced false) (sym (append_assoc ps (token (codes ")") ∷ []) qs)) (f (token (codes ")") ∷ qs) (inl (close_paren, refl, looser qs h))))

as_argument_flows : (m : Manner) (ps : List Piece) → Flows ps → Flows (as_argument m ps)
as_argument_flows alone ps f = f
as_argument_flows row ps f = parenthesised ps f
as_argument_flows operation ps f = parenthesised ps f

as_operand_flows : (m : Manner) (ps : List Piece) → Flows ps → Flows (as_operand m ps)
as_operand_flows alone ps f = f
as_operand_flows row ps f = f
as_operand_flows operation ps f = parenthesised ps f

abbrev AllFlow : List Part → Type 0
AllFlow [] = Unit {0}
AllFlow (a ∷ xs) = Flows a.pieces × AllFlow xs

spaced_flows : (xs : List Part) → AllFlow xs → FlowsOn (spaced xs)
spaced_flows [] f qs h = h
spaced_flows (a ∷ xs) (f, fs) qs h =
    subst (IsSpaced true) (sym (append_assoc (space ∷ argument a) (spaced xs) qs))
    (as_argument_flows a.manner a.pieces f (spaced xs ++ qs) (spaced_flows xs fs qs h))

drop_flow : (n : ℕ) (xs : List Part) → AllFlow xs → AllFlow (drop n xs)
drop_flow ℕ.zero xs f = f
drop_flow (ℕ.suc n) [] f = f
drop_flow (ℕ.suc n) (a ∷ xs) f = drop_flow n xs f.1

plain_flows : (t : List ℕ) (xs : List Part) → IsWord t → AllFlow xs → Flows (plain t xs)
plain_flows t xs w f qs h = inr (w, refl, spaced_flows xs f qs h)

nothing_flows : Flows []
nothing_flows qs h = looser qs h

operated_flows : (t : List ℕ) (fix : Fix) (xs : List Part) → IsWord t → AllFlow xs → Flows (operated t fix xs)
operated_flows t (Infix a n) (l ∷ r ∷ xs) w (f, (g, fs)) = λ qs h.
    subst (IsSpaced false) (sym (append_assoc (operand l) (space ∷ token t ∷ space ∷ operand r) qs))
    (as_operand_flows l.manner l.pieces f (space ∷ token t ∷ space ∷ (operand r ++ qs)) (inr (w, refl, as_operand_flows r.manner r.pieces g qs h)))
operated_flows t (Infix a n) (l ∷ []) w f = nothing_flows
operated_flows t (Infix a n) [] w f = nothing_flows
operated_flows t (Prefix n) (x ∷ xs) w (f, fs) = λ qs h. inr (w, refl, as_operand_flows x.manner x.pieces f qs h)
operated_flows t (Prefix n) [] w f = nothing_flows
operated_flows t (Postfix n) (x ∷ xs) w (f, fs) = λ qs h.
    subst (IsSpaced false) (sym (append_assoc (operand x) (space ∷ token t ∷ []) qs)) (as_operand_flows x.manner x.pieces f (space ∷ token t ∷ qs) (inr (w, refl, h)))
operated_flows t (Postfix n) [] w f = nothing_flows

followed_flows : (ps : List Piece) (xs : List Part) → Flows ps → AllFlow xs → Flows (followed ps xs)
followed_flows ps [] f fs = f
followed_flows ps (a ∷ xs) f fs = λ qs h.
    subst (IsSpaced false) (sym (append_assoc (in_parentheses ps) (spaced (a ∷ xs)) qs))
    (parenthesised ps f (spaced (a ∷ xs) ++ qs) (spaced_flows (a ∷ xs) fs qs h))

cond_flows : (b : Bool) (ps rs : List Piece) → Flows ps → Flows rs → Flows (cond b ps rs)
cond_flows true ps rs f g = f
cond_flows false ps rs f g = g

laid_flows : (t : List ℕ) (o : Option Fix) (xs : List Part) → IsWord t → AllFlow xs → Flows (laid t o xs)
laid_flows t None xs w f = plain_flows t xs w f
laid_flows t (Some fix) xs w f =
    cond_flows (nat_le (operand_count fix) (length xs)) (followed (operated t fix xs) (drop (operand_count fix) xs)) (plain t xs)
    (followed_flows (operated t fix xs) (drop (operand_count fix) xs) (operated_flows t fix xs w f) (drop_flow (operand_count fix) xs f)) (plain_flows t xs w f)

arrow_word : IsWord (codes "->")
unfolding encode_utf8
arrow_word = record { first = 45; others = 62 ∷ []; spelled = refl; plain = (record { scalar = refl; plain = refl }, (record { scalar = refl; plain = refl }, tt)) }

pub equals_word : IsWord (codes "=")
unfolding encode_utf8
equals_word = record { first = 61; others = []; spelled = refl; plain = (record { scalar = refl; plain = refl }, tt) }

pub hole_word : IsWord (codes "_")
unfolding encode_utf8
hole_word = record { first = 95; others = []; spelled = refl; plain = (record { scalar = refl; plain = refl }, tt) }

type_word : IsWord (codes "type")
unfolding encode_utf8
type_word = record {
  first = 116;
  others = 121 ∷ 112 ∷ 101 ∷ [];
  spelled = refl;
  plain = (record { scalar = refl; plain = refl }, (record { scalar = refl; plain = refl }, (record { scalar = refl; plain = refl }, (record { scalar = refl; plain = refl }, tt))));
}

-- a variable with its type in brackets, and the rest
bracketed_flows : (m n : Sign) (opener x closer : List ℕ) (ps rest : List Piece) → opener ≡ byte_of m ∷ [] → closer ≡ byte_of n ∷ [] → IsWord x → Flows ps → Flows rest → Flows (bracketed opener x closer ps ++ rest)
bracketed_flows m n opener x closer ps rest e g w f r qs h =
    inl (
      m,
      e,
      inr (
        w,
        refl,
        inl (
          colon,
          refl,
          subst (IsSpaced false) (sym (append_assoc (ps ++ token closer ∷ space ∷ []) rest qs ∙ append_assoc ps (token closer ∷ space ∷ []) (rest ++ qs)))
              (f (token closer ∷ space ∷ (rest ++ qs)) (inl (n, g, r qs h))),
        ),
      ),
    )

mutual
  pub pieces_flow : (table : Table) (t : Sketch) → IsLegible table t → Flows (pieces t)
  pieces_flow table (applied h t fix xs) (n, r, o, l) = laid_flows t fix (parts xs) (word_of_name t n) (parts_flow table xs l)
  pieces_flow table (arrow m t u) (s, f, g) = λ qs h.
      subst (IsSpaced false) (sym (append_assoc (as_operand m (pieces t) ++ space ∷ token (codes "->") ∷ space ∷ []) (pieces u) qs ∙ append_assoc (as_operand m (pieces t)) (space ∷ token (codes "->") ∷ space ∷ []) (pieces u ++ qs)))
      (as_operand_flows m (pieces t) (pieces_flow table t f) (space ∷ token (codes "->") ∷ space ∷ (pieces u ++ qs)) (inr (arrow_word, refl, pieces_flow table u g qs h)))
  pieces_flow table (quantified x t u) (n, f, g) = bracketed_flows open_brace close_brace (codes "{") x (codes "}") (pieces t) (pieces u) refl refl (word_of_name x n) (pieces_flow table t f) (pieces_flow table u g)
  pieces_flow table (abstracted x t u) (n, f, g) = bracketed_flows open_bracket close_bracket (codes "[") x (codes "]") (pieces t) (pieces u) refl refl (word_of_name x n) (pieces_flow table t f) (pieces_flow table u g)
  pieces_flow table kind l = word (codes "type") type_word
  pieces_flow table too_deep l = absurd l
  pieces_flow table untyped l = absurd l

  parts_flow : (table : Table) (ts : Sketches) → AreLegible table ts → AllFlow (parts ts)
  parts_flow table none l = tt
  parts_flow table (more m t ts) (s, f, fs) = (pieces_flow table t f, parts_flow table ts fs)
