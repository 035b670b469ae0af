-- The printed line of an entry is read back.
use Rattle.std.proofs.Common.{◌≡◌, ℕ, zero, ◌+◌, List, [], ◌∷◌, ◌++◌, length, drop, false, Option, Some, refl, sym, ap, ◌∙◌, subst, arith, inl, inr, append_assoc, append-nil, length-append}
use Rattle.std.specs.Prelude.{codes}
use Rattle.lf.specs.Entries.{Entry, Body, declare_family, declare_constant, declare_definition, signature_of, BodyIsTyped}
use Rattle.lf.proofs.Entries.{canonical_is_signature}
use Rattle.law_explicit_form.specs.Completion.{BodyGiven}
use Rattle.tw_names.specs.Texts.{hints}
use Rattle.tw_lexer.specs.Tokens.{ThroughDot}
use Rattle.tw_lexer.specs.declared.token.Token.{Token}
use Rattle.tw_parse.specs.Outlines.{Table, Shapes, declares, Sequence}
use Rattle.tw_parse.specs.Readings.{Declares, declared}
use Rattle.tw_parse.specs.Syntax as syntax
use Rattle.tw_parse.specs.Words.{lexemes}
use Rattle.tw_print.specs.Names.{Scene}
use Rattle.tw_print.specs.Pieces.{Piece, token, space, render}
use Rattle.tw_print.specs.Shown.{declaration, declaration_line, nesting_limit}
use Rattle.law_reading_back.specs.Laws.{LayoutIsShown, GivesClassifier, LineIsLexed, LineIsRead, ClassifierIsLegible, IsDeclared, OpenTextReadsBack, TextReadsBack}
use Rattle.law_reading_back.specs.Layout.{pieces, line}
use Rattle.law_reading_back.specs.Legible.{IsWhole, IsLegible}
use Rattle.law_reading_back.specs.Names.{EachIs, IsByte, IsPlainByte, IsName}
use Rattle.law_reading_back.specs.Sketches.{Sketch, classifier_sketch}
use Rattle.law_reading_back.specs.Spelling.{Spells, IsUnhidden}
use Rattle.law_reading_back.specs.Tokens.{BeginWith, AreTokens}
use Rattle.law_reading_back.proofs.Bytes.{each_byte, whole_line}
use Rattle.law_reading_back.proofs.Explicit.{given_is_explicit}
use Rattle.law_reading_back.proofs.Kept.{good_name, good_leading, classifier_kept, classifier_open}
use Rattle.law_reading_back.proofs.Laying.{same_pieces, classifier_is}
use Rattle.law_reading_back.proofs.Legibility.{type_legible, family_kind_legible}
use Rattle.law_reading_back.proofs.Lexing.{IsSpaced, Lexed, lexed, colon, word_is_fixed}
use Rattle.tw_parse.proofs.OneReading.{one_reading}
use Rattle.law_reading_back.proofs.Plainness.{open_classifier}
use Rattle.law_reading_back.proofs.Reading.{Splits, split, SequenceOf, sequence_read}
use Rattle.law_reading_back.proofs.Spacing.{word_of_name, pieces_flow}

pub layout_shown : LayoutIsShown
layout_shown = (λ s implicit hints b. classifier_is s implicit hints b, λ s M A. (same_pieces s nesting_limit).terms [] [] M (Some A))

render_append : (ps qs : List Piece) → render (ps ++ qs) ≡ render ps ++ render qs
render_append [] qs = refl
render_append (space ∷ ps) qs = ap (λ x. 32 ∷ x) (render_append ps qs)
render_append (token t ∷ ps) qs = ap (λ x. t ++ x) (render_append ps qs) ∙ sym (append_assoc t (render ps) (render qs))

-- the pieces before the dot
before_dot : List ℕ → Sketch → List Piece
before_dot name t = token name ∷ space ∷ token (codes ":") ∷ space ∷ pieces t

line_spaced : (table : Table) (t : Sketch) (name : List ℕ) → IsName name → IsLegible table t → IsSpaced false (before_dot name t)
unfolding before_dot
line_spaced table t name n l = inr (word_of_name name n, refl, inl (colon, refl, subst (IsSpaced false) (append-nil (pieces t)) (pieces_flow table t l [] tt)))

-- what is told of the tokens of a line
abbrev pub IsLexed : List ℕ → ℕ → List Piece → Type 0
IsLexed text from ls = (tokens : List Token) × ThroughDot text from tokens (from + length (render ls)) × AreTokens ls (lexemes text tokens)

pub lexed_whole : (text after : List ℕ) (from : ℕ) (ps ls : List Piece) → ls ≡ ps ++ token (codes ".") ∷ [] → drop from text ≡ render ls ++ after
    → ((upto : ℕ) → drop from text ≡ render ps ++ (46 ∷ after) → upto ≡ from + (length (render ps) + 1) → Lexed text from ps upto) → IsLexed text from ls
lexed_whole text after from ps ls q e lex =
    let r : render ls ≡ render ps ++ (46 ∷ []) = ap render q ∙ render_append ps (token (codes ".") ∷ []) in
    let f : drop from text ≡ render ps ++ (46 ∷ after) = e ∙ ap (λ x. x ++ after) r ∙ append_assoc (render ps) (46 ∷ []) after in
    let h = lex (from + length (render ls)) f (omega (arith, ap length r, length-append (render ps) (46 ∷ []))) in
    (h.tokens, h.through, subst (λ ks. AreTokens ks (lexemes text h.tokens)) (sym q) h.are)

pub line_lexed : LineIsLexed
unfolding before_dot
line_lexed table t name text after from n l e = lexed_whole text after from (before_dot name t) (line name t) refl e (λ upto f k. lexed text (before_dot name t) false from upto after (line_spaced table t name n l) f k)

pub line_read : LineIsRead
line_read table t name xs n l (x, r, e, w, b, (c, r', e', w', b', h)) = behind (split (pieces t) (token (codes ".") ∷ []) r' [] h)
  where
    behind : Splits (pieces t) (token (codes ".") ∷ []) r' [] → (at : _) × (U : syntax.Term) × Declares table xs (syntax.declare name at U) × Spells t U
    behind s = with_dot s.back (sequence_read table t r' s.middle l s.front)
      where
        with_dot : BeginWith (token (codes ".") ∷ []) s.middle [] → SequenceOf table t r' s.middle → (at : _) × (U : syntax.Term) × Declares table xs (syntax.declare name at U) × Spells t U
        with_dot (d, last, f, v, g, k) q =
            let sequence : Sequence table r' q.outline (d ∷ []) = subst (λ ys. Sequence table r' q.outline ys) (f ∙ ap (λ ys. d ∷ ys) k) q.sequence in
            let shape : Shapes table (x ∷ c ∷ r') (syntax.declare x.bytes x.at q.outline) = declares {x = x} {colon = c} {dot = d} {tokens = r'} {U = q.outline} (w ∙ word_is_fixed name (word_of_name name n) ∙ n.free) w' sequence v in
            let all : xs ≡ x ∷ c ∷ r' = e ∙ ap (λ ys. x ∷ ys) e' in (
              x.at,
              q.term,
              (syntax.declare name x.at q.outline, subst (λ ys. Shapes table ys (syntax.declare name x.at q.outline)) (sym all) (subst (λ y. Shapes table (x ∷ c ∷ r') (syntax.declare y x.at q.outline)) b shape), declared q.means),
              q.spells,
            )

pub classifier_legible : ClassifierIsLegible
classifier_legible s es table e o t h u w = by_body e.body t u w
  where
    by_body : (b : Body) → BodyIsTyped (signature_of es) b → IsUnhidden s (classifier_sketch s e.implicit e.hints b) → IsWhole (classifier_sketch s e.implicit e.hints b) → IsLegible table (classifier_sketch s e.implicit e.hints b)
    by_body (declare_family K) t u w = family_kind_legible s o.over.newer es o.over.entries (canonical_is_signature es o.over.canonical) o.hides o.names o.rows table o.agrees (good_name s o.over.room o.over.preferences) e.implicit e.hints (good_leading s o.over.room o.over.preferences e.implicit e.hints h) K t u w
    by_body (declare_constant A) t u w = type_legible s o.over.newer es o.over.entries (canonical_is_signature es o.over.canonical) o.hides o.names o.rows table o.agrees (good_name s o.over.room o.over.preferences) e.implicit e.hints (good_leading s o.over.room o.over.preferences e.implicit e.hints h) A t u w
    by_body (declare_definition M A b) t u w = type_legible s o.over.newer es o.over.entries (canonical_is_signature es o.over.canonical) o.hides o.names o.rows table o.agrees (good_name s o.over.room o.over.preferences) e.implicit e.hints (good_leading s o.over.room o.over.preferences e.implicit e.hints h) A t.0 u w

body_given : (es : List Entry) (U : syntax.Term) (b : Body) → IsDeclared b → GivesClassifier es U b → BodyGiven es U b
body_given es U (declare_family K) d g = g
body_given es U (declare_constant A) d g = g
body_given es U (declare_definition M A b) d g = absurd d

line_is : (s : Scene) (name : List ℕ) (implicit : ℕ) (hints : List (Option (List ℕ))) (b : Body) → IsDeclared b → declaration s (record { name = name; body = b; implicit = implicit; hints = hints }) ≡ line name (classifier_sketch s implicit hints b)
line_is s name implicit hints (declare_family K) d = ap (λ ps. (token name ∷ space ∷ token (codes ":") ∷ space ∷ ps) ++ token (codes ".") ∷ []) (classifier_is s implicit hints (declare_family K))
line_is s name implicit hints (declare_constant A) d = ap (λ ps. (token name ∷ space ∷ token (codes ":") ∷ space ∷ ps) ++ token (codes ".") ∷ []) (classifier_is s implicit hints (declare_constant A))
line_is s name implicit hints (declare_definition M A b) d = absurd d

pub open_reads_back : OpenTextReadsBack
open_reads_back s es table e text after from o p w h =
    let t = classifier_sketch s e.implicit e.hints e.body in
    let same : declaration_line s e ≡ render (line e.name t) = ap render (line_is s e.name e.implicit e.hints e.body p.declared) in
    let l : IsLegible table t = classifier_legible s es table e o p.typed p.hints w.unhidden (whole_line e.name t (subst (EachIs IsByte) same w.bytes)) in
    let k = line_lexed table t e.name text after from p.name l (h ∙ ap (λ x. x ++ after) same) in
    let r = line_read table t e.name (lexemes text k.0) p.name l k.2 in
    let g = classifier_kept s es e r.1 o.over p.typed p.hints w.unhidden r.3 in
    record {
      tokens = k.0;
      through = subst (λ n. ThroughDot text from k.0 (from + n)) (sym (ap length same)) k.1;
      at = r.0;
      written = r.1;
      reads = r.2;
      only = (one_reading table (lexemes text k.0) (syntax.declare e.name r.0 r.1) r.2).0;
      explicit = given_is_explicit es e.name r.0 r.1 e.body (classifier_open s es e r.1 o.over p.typed p.hints w.unhidden r.3) (body_given es r.1 e.body p.declared g);
      entry = record { name = e.name; body = e.body; implicit = zero; hints = hints r.1 };
      completes = record { name = refl; body = body_given es r.1 e.body p.declared g; implicit = refl; hint_each = refl };
      same = refl;
    }

pub reads_back : TextReadsBack
reads_back s es table e text after from o p n b h =
    let q = open_classifier s n e.implicit e.hints e.name e.body (subst (EachIs IsPlainByte) (ap render (line_is s e.name e.implicit e.hints e.body p.declared)) b) in
    open_reads_back s es table e text after from o p (record { unhidden = q; bytes = each_byte (declaration_line s e) b }) h
