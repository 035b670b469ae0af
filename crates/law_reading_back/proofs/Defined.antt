-- The printed line of a definition is read back.
use Rattle.std.proofs.Common.{◌≡◌, ℕ, ◌+◌, List, [], ◌∷◌, ◌++◌, length, drop, Bool, true, false, cond, Option, Some, None, refl, sym, ap, ap₂, ◌∙◌, subst, inl, inr, append_assoc, append-nil}
use Rattle.std.specs.Prelude.{codes}
use Rattle.lf.specs.Entries.{Entry, Body, declare_definition, signature_of, BodyIsTyped}
use Rattle.lf.specs.Syntax.{Term, LfType}
use Rattle.lf.proofs.Entries.{canonical_is_signature}
use Rattle.law_explicit_form.specs.Completion.{TermGives, TypeGives}
use Rattle.tw_lexer.specs.Tokens.{ThroughDot}
use Rattle.tw_parse.specs.Keywords.{form_of}
use Rattle.tw_parse.specs.Outlines.{Table, Shapes, defines_typed, Head, a_check, a_definition, an_abbreviation, Sequence}
use Rattle.tw_parse.specs.Readings.{Declares, defined_typed}
use Rattle.tw_parse.specs.Syntax as syntax
use Rattle.tw_parse.specs.Words.{Lexeme, fixed_word, lexemes}
use Rattle.tw_parse.specs.declared.words.Word.TheVariants.{Underscore}
use Rattle.tw_parse.proofs.OneReading.{one_reading}
use Rattle.tw_print.specs.Names.{Scene}
use Rattle.tw_print.specs.Pieces.{Piece, token, space, render}
use Rattle.tw_print.specs.Shown.{keyword, declaration, declaration_line, nesting_limit}
use Rattle.law_reading_back.specs.Laws.{GivesClassifier, DefinitionIsLexed, DefinitionIsRead, DefinedIsLegible, OpenDefinitionReadsBack, bare_line, DefinitionReadsBack}
use Rattle.law_reading_back.specs.Layout.{pieces, definition_line}
use Rattle.law_reading_back.specs.Legible.{IsLegible}
use Rattle.law_reading_back.specs.Names.{EachIs, IsByte, IsPlainByte, IsDeclaredBy, IsName}
use Rattle.law_reading_back.specs.Sketches.{Sketch, classifier_sketch, defined_sketch}
use Rattle.law_reading_back.specs.Spelling.{Spells}
use Rattle.law_reading_back.specs.Tokens.{BeginWith, AreTokens, token_word}
use Rattle.law_reading_back.proofs.Back.{IsLexed, lexed_whole, classifier_legible}
use Rattle.law_reading_back.proofs.Bytes.{behind_keyword_bytes, each_byte, whole_definition}
use Rattle.law_reading_back.proofs.Explicit.{given_is_defined}
use Rattle.law_reading_back.proofs.Kept.{good_name, classifier_kept, classifier_open, definition_kept, definition_open}
use Rattle.law_reading_back.proofs.Laying.{same_pieces, classifier_is}
use Rattle.law_reading_back.proofs.Legibility as legibility
use Rattle.law_reading_back.proofs.Lexing.{IsSpaced, IsWord, lexed, keyword_lexed, colon, word_is_fixed}
use Rattle.law_reading_back.proofs.Plainness.{open_definition}
use Rattle.law_reading_back.proofs.Reading.{Splits, split, name_word, SequenceOf, sequence_read}
use Rattle.law_reading_back.proofs.Spacing.{word_of_name, equals_word, hole_word, pieces_flow}

abbrev dot : List Piece
dot = token (codes ".") ∷ []

-- the pieces before the dot, without a keyword
abbrev before_dot : List ℕ → Sketch → Sketch → List Piece
before_dot name t u = token name ∷ space ∷ token (codes ":") ∷ space ∷ (pieces t ++ (space ∷ token (codes "=") ∷ space ∷ pieces u))

-- the name, or `_`, is a word
word_is : (word : List ℕ) (b : Bool) (name : Option (List ℕ)) → IsDeclaredBy word b name → IsWord word
word_is word b (Some name) (e, n) = word_of_name word (subst IsName (sym e) n)
word_is word b None (e, q) = subst IsWord (sym e) hole_word

before_dot_spaced : (table : Table) (t u : Sketch) (name : List ℕ) → IsWord name → IsLegible table t → IsLegible table u → IsSpaced false (before_dot name t u)
before_dot_spaced table t u name n l m =
    inr (n, refl, inl (colon, refl, pieces_flow table t l (space ∷ token (codes "=") ∷ space ∷ pieces u) (inr (equals_word, refl, subst (IsSpaced false) (append-nil (pieces u)) (pieces_flow table u m [] tt)))))

line_ends : (name : List ℕ) (t u : Sketch) → definition_line false name t u ≡ before_dot name t u ++ dot
line_ends name t u = ap (λ ps. token name ∷ space ∷ token (codes ":") ∷ space ∷ ps) (sym (append_assoc (pieces t) (space ∷ token (codes "=") ∷ space ∷ pieces u) dot))

pub definition_lexed : DefinitionIsLexed
definition_lexed table b t u declared name text after from d l m = by_keyword b
  where
    n : IsWord name
    n = word_is name b declared d

    by_keyword : (b : Bool) → drop from text ≡ render (definition_line b name t u) ++ after → IsLexed text from (definition_line b name t u)
    by_keyword false e =
        lexed_whole text after from (before_dot name t u) (definition_line false name t u) (line_ends name t u) e
        (λ upto f k. lexed text (before_dot name t u) false from upto after (before_dot_spaced table t u name n l m) f k)
    by_keyword true e =
        lexed_whole text after from (token (codes "%abbrev") ∷ space ∷ before_dot name t u) (definition_line true name t u) (ap (λ ks. token (codes "%abbrev") ∷ space ∷ ks) (line_ends name t u)) e
        (λ upto f k. keyword_lexed text (before_dot name t u) from upto after (before_dot_spaced table t u name n l m) f k)

-- what is told of the lexemes
record IsReadAs (table : Table) (b : Bool) (t u : Sketch) (name : Option (List ℕ)) (words : List Lexeme) : Type 0 where
  pub type_written : syntax.Term
  pub term_written : syntax.Term
  pub reads : Declares table words (syntax.define name (Some type_written) term_written b)
  pub type_spells : Spells t type_written
  pub term_spells : Spells u term_written

-- behind what is defined stand the type and the term
read_behind : (table : Table) (b : Bool) (t u : Sketch) (name : Option (List ℕ)) (words tokens : List Lexeme) → IsLegible table t → IsLegible table u → Head words name b tokens
    → BeginWith (space ∷ token (codes ":") ∷ space ∷ (pieces t ++ (space ∷ token (codes "=") ∷ space ∷ (pieces u ++ dot)))) tokens [] → IsReadAs table b t u name words
read_behind table b t u name words tokens l m head (c, rest, e, w, y, h) = with_type (split (pieces t) (space ∷ token (codes "=") ∷ space ∷ (pieces u ++ dot)) rest [] h)
  where
    with_type : Splits (pieces t) (space ∷ token (codes "=") ∷ space ∷ (pieces u ++ dot)) rest [] → IsReadAs table b t u name words
    with_type s = with_equals s.back (sequence_read table t rest s.middle l s.front)
      where
        with_equals : BeginWith (space ∷ token (codes "=") ∷ space ∷ (pieces u ++ dot)) s.middle [] → SequenceOf table t rest s.middle → IsReadAs table b t u name words
        with_equals (q, next, f, v, z, k) i = with_term (split (pieces u) dot next [] k)
          where
            with_term : Splits (pieces u) dot next [] → IsReadAs table b t u name words
            with_term r = with_dot r.back (sequence_read table u next r.middle m r.front)
              where
                with_dot : BeginWith dot r.middle [] → SequenceOf table u next r.middle → IsReadAs table b t u name words
                with_dot (d, last, g, x, a, o) j =
                    let begin : Head words name b (c ∷ rest) = subst (Head words name b) e head in
                    let first : Sequence table rest i.outline (q ∷ next) = subst (Sequence table rest i.outline) f i.sequence in
                    let second : Sequence table next j.outline (d ∷ []) = subst (Sequence table next j.outline) (g ∙ ap (λ ys. d ∷ ys) o) j.sequence in
                    let shape : Shapes table words (syntax.define name (Some i.outline) j.outline b) =
                    defines_typed {colon = c} {equals = q} {dot = d} {all = words} {tokens = rest} {next = next} {name = name} {b = b} {U = i.outline} {M = j.outline} begin w first v second x in
                    record {
                      type_written = i.term;
                      term_written = j.term;
                      reads = (syntax.define name (Some i.outline) j.outline b, shape, defined_typed i.means j.means);
                      type_spells = i.spells;
                      term_spells = j.spells;
                    }

-- a definition's line begins with its name, or with `_`
head_at : (x : Lexeme) (rest : List Lexeme) (word : List ℕ) (name : Option (List ℕ)) → IsDeclaredBy word false name → x.word ≡ token_word word → x.bytes ≡ word → Head (x ∷ rest) name false rest
head_at x rest word (Some name) (e, n) w y = subst (λ z. Head (x ∷ rest) (Some z) false rest) (y ∙ e) (a_definition {x = x} {rest = rest} (w ∙ name_word word (subst IsName (sym e) n)))
head_at x rest word None (e, q) w y =
    let hole : fixed_word (codes "_") ≡ Underscore = refl in
    a_check {x = x} {rest = rest} (w ∙ ap token_word e ∙ word_is_fixed (codes "_") hole_word ∙ hole)

line_read : (table : Table) (t u : Sketch) (name : Option (List ℕ)) (word : List ℕ) (words : List Lexeme) (b : Bool) → IsDeclaredBy word b name → IsLegible table t → IsLegible table u → AreTokens (definition_line b word t u) words
    → IsReadAs table b t u name words
line_read table t u name word words false n l m (x, rest, e, w, y, h) =
    read_behind table false t u name words rest l m (subst (λ xs. Head xs name false rest) (sym e) (head_at x rest word name n w y)) h
line_read table t u (Some name) word words true (d, n) l m (k, tail, f, v, z, (x, rest, e, w, y, h)) =
    let head : Head (k ∷ x ∷ rest) (Some name) true rest =
    subst (λ c. Head (k ∷ x ∷ rest) (Some c) true rest) (y ∙ d) (an_abbreviation {keyword = k} {x = x} {rest = rest} v (ap form_of z) (w ∙ name_word word (subst IsName (sym d) n))) in
    read_behind table true t u (Some name) words rest l m (subst (λ xs. Head xs (Some name) true rest) (sym (f ∙ ap (λ ys. k ∷ ys) e)) head) h
line_read table t u None word words true (d, q) l m h = absurd cc

pub definition_read : DefinitionIsRead
definition_read table b t u name word words n l m h = let r = line_read table t u name word words b n l m h in (r.type_written, r.term_written, r.reads, r.type_spells, r.term_spells)

pub defined_legible : DefinedIsLegible
defined_legible s es table M A o a m u w =
    legibility.definition_legible s o.over.newer es o.over.entries (canonical_is_signature es o.over.canonical) o.hides o.names o.rows table o.agrees (good_name s o.over.room o.over.preferences) M A a m u w

line_is : (s : Scene) (name : List ℕ) (implicit : ℕ) (hints : List (Option (List ℕ))) (d : Body) (M : Term) (A : LfType) (b : Bool) → d ≡ declare_definition M A b
    → declaration s (record { name = name; body = d; implicit = implicit; hints = hints }) ≡ definition_line b name (classifier_sketch s implicit hints d) (defined_sketch s M A)
line_is s name implicit hints d M A b e =
    subst (λ x. declaration s (record { name = name; body = x; implicit = implicit; hints = hints }) ≡ definition_line b name (classifier_sketch s implicit hints x) (defined_sketch s M A)) (sym e)
    (ap₂ (λ x y. cond b (token (codes "%abbrev") ∷ space ∷ []) [] ++ ((token name ∷ space ∷ token (codes ":") ∷ space ∷ x) ++ ((space ∷ token (codes "=") ∷ space ∷ y) ++ dot)))
    (classifier_is s implicit hints (declare_definition M A b)) ((same_pieces s nesting_limit).terms [] [] M (Some A)))

-- the line behind the keyword
behind_keyword : (b : Bool) (ps : List Piece) → drop (length (render (cond b (token (codes "%abbrev") ∷ space ∷ []) []))) (render (cond b (token (codes "%abbrev") ∷ space ∷ []) [] ++ ps)) ≡ render ps
behind_keyword true ps = refl
behind_keyword false ps = refl

bare_is : (s : Scene) (e : Entry) (M : Term) (A : LfType) (b : Bool) → e.body ≡ declare_definition M A b → bare_line s e ≡ render (definition_line false e.name (classifier_sketch s e.implicit e.hints e.body) (defined_sketch s M A))
bare_is s e M A b q =
    ap₂ (λ d ls. drop (length (render (keyword d))) (render ls)) q (line_is s e.name e.implicit e.hints e.body M A b q)
    ∙ behind_keyword b (definition_line false e.name (classifier_sketch s e.implicit e.hints e.body) (defined_sketch s M A))

pub open_definition_back : OpenDefinitionReadsBack
open_definition_back s es table e name M A b text after from o p w h =
    let t = classifier_sketch s e.implicit e.hints e.body in
    let u = defined_sketch s M A in
    let typed : BodyIsTyped (signature_of es) (declare_definition M A b) = subst (BodyIsTyped (signature_of es)) p.defines p.typed in
    let same : declaration_line s e ≡ render (definition_line b e.name t u) = ap render (line_is s e.name e.implicit e.hints e.body M A b p.defines) in
    let whole = whole_definition b e.name t u (subst (EachIs IsByte) same w.classifier.bytes) in
    let l : IsLegible table t = classifier_legible s es table e o p.typed p.hints w.classifier.unhidden whole.0 in
    let m : IsLegible table u = defined_legible s es table M A o typed.0 typed.1 w.unhidden whole.1 in
    let k = definition_lexed table b t u name e.name text after from p.word l m (h ∙ ap (λ x. x ++ after) same) in
    let r = line_read table t u name e.name (lexemes text k.0) b p.word l m k.2 in
    let g : TypeGives es [] [] r.type_written A = subst (GivesClassifier es r.type_written) p.defines (classifier_kept s es e r.type_written o.over p.typed p.hints w.classifier.unhidden r.type_spells) in
    let i : TermGives es [] [] r.term_written A M = definition_kept s es M A r.term_written o.over typed.0 typed.1 w.unhidden r.term_spells in
    let f =
    given_is_defined es r.type_written r.term_written A M (classifier_open s es e r.type_written o.over p.typed p.hints w.classifier.unhidden r.type_spells)
    (definition_open s es M A r.term_written o.over typed.0 typed.1 w.unhidden r.term_spells) g i in
    record {
      tokens = k.0;
      through = subst (λ n. ThroughDot text from k.0 (from + n)) (sym (ap length same)) k.1;
      type_written = r.type_written;
      term_written = r.term_written;
      reads = r.reads;
      only = (one_reading table (lexemes text k.0) (syntax.define name (Some r.type_written) r.term_written b) r.reads).0;
      known = f.unknown;
      type_form = f.type_form;
      term_form = f.term_form;
      type_gives = g;
      term_gives = i;
    }

pub definition_back : DefinitionReadsBack
definition_back s es table e name M A b text after from o p n plain h =
    let t = classifier_sketch s e.implicit e.hints e.body in
    let u = defined_sketch s M A in
    let bare : EachIs IsPlainByte (render (definition_line false e.name t u)) = subst (EachIs IsPlainByte) (bare_is s e M A b p.defines) plain in
    let q = open_definition s n e.implicit e.hints e.name e.body M A bare in
    let bytes : EachIs IsByte (render (definition_line b e.name t u)) = behind_keyword_bytes b (definition_line false e.name t u) (each_byte (render (definition_line false e.name t u)) bare) in
    let same : declaration_line s e ≡ render (definition_line b e.name t u) = ap render (line_is s e.name e.implicit e.hints e.body M A b p.defines) in
    open_definition_back s es table e name M A b text after from o p (record { classifier = record { unhidden = q.0; bytes = subst (EachIs IsByte) (sym same) bytes }; unhidden = q.1 }) h
