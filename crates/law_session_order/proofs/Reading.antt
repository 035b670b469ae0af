-- The printed lines of a session in order are read back.
use Rattle.std.proofs.Common.{◌≡◌, ℕ, ◌+◌, ◌<◌, List, [], ◌∷◌, ◌++◌, drop, length, Bool, true, false, cond, Some, None, refl, sym, ap, ◌∙◌, subst, arith, append_assoc}
use Rattle.std.specs.Prelude.{codes}
use Rattle.std.specs.Str.{bytes_eq}
use Rattle.std.proofs.lemmas.Bool.{cond-false}
use Rattle.std.specs.Cmp.Lexicographic.{nat_list_cmp_total, bytes_decides}
use Rattle.std.specs.FinMap.{get, remove, get-remove}
use Rattle.std.specs.Ordering.{eq_by_cmp}
use Rattle.lf.specs.Entries.{Body, Entry, declare_constant, declare_definition, declare_family, entry, IsCanonicalSignature}
use Rattle.lf.specs.Syntax.{Term, LfType}
use Rattle.lf.specs.Variables.{same_number}
use Rattle.lf.proofs.Checker.{number_is, number_itself}
use Rattle.tw_fixity.specs.Rows.{name_order}
use Rattle.tw_parse.specs.Outlines.{Table}
use Rattle.tw_parse.specs.Syntax.{Declaration, declare, define, prefer, give}
use Rattle.tw_parse.specs.Words.{Lexeme, fixed_word}
use Rattle.tw_parse.specs.declared.words.Word.TheVariants.{Name, Underscore}
use Rattle.tw_print.specs.Pieces.{render}
use Rattle.tw_print.specs.Shown.{declaration_line, keyword, scene_after}
use Rattle.tw_signature.specs.Names.{number_of}
use Rattle.tw_decl.specs.View.{View, with_entry, scene_of, told}
use Rattle.tw_decl.specs.Declaration.{entry_line, entry_report, Does, Makes, ReadDoes}
use Rattle.tw_parse_queries.specs.Searches as searches
use Rattle.tw_decl.specs.Reading as reading
use Rattle.tw_decl.specs.Reading.{Read}
use Rattle.tw_decl.specs.Reports.{Reported, lines_alone}
use Rattle.law_reading_back.specs.Laws.{IsInOrder, IsTypedDefinition, IsTypedEntry, IsDeclared, IsOpenEntry, ReadsAs}
use Rattle.law_reading_back.specs.Names.{IsName, HasRoom, AgreeOn, EachIs, IsPlainByte, HasNoImplicit}
use Rattle.law_reading_back.proofs.Back.{open_reads_back, reads_back}
use Rattle.law_reading_back.proofs.Defined.{definition_back, open_definition_back}
use Rattle.law_session_order.specs.Laws.{KeptReadsBack, OpenReadsBack, NewReadsBack, Reports, ReportReadsBack, ReportFromReadsBack}
use Rattle.law_session_order.specs.Words.{AreSpelled}
use Rattle.law_session_order.specs.Order.{HasOpenLine, HasPlainLine, IsOpen, IsViewInOrder, LineReadsBack, ReadsBody}
use Rattle.law_session_order.proofs.Keeping.{same_name, newest_below, checked_parts, making_keeps, written_spelled}

-- an entry among others
pub older_stays : (f : Entry) (es : List Entry) (c : ℕ) (e : Entry) → c < length es → entry es c ≡ Some e → entry (f ∷ es) c ≡ Some e
older_stays f es c e l q = by_test (same_number c (length es)) refl
  where
    by_test : (b : Bool) → same_number c (length es) ≡ b → cond b (Some f) (entry es c) ≡ Some e
    by_test true h = let i = number_is c (length es) h in absurd (omega (arith, l, i))
    by_test false h = q

pub record IsAmong (es : List Entry) (c : ℕ) (e : Entry) : Type 0 where
  pub below : c < length es
  pub is : entry es c ≡ Some e

pub among : (newer older : List Entry) (e : Entry) → IsAmong (newer ++ e ∷ older) (length older) e
among [] older e = record { below = omega arith; is = ap (λ b. cond b (Some e) (entry older (length older))) (number_itself (length older)) }
among (f ∷ newer) older e =
    let h = among newer older e in
    record { below = let l = h.below in omega (arith, l); is = older_stays f (newer ++ e ∷ older) (length older) e h.below h.is }

pub canonical_rest : (newer es : List Entry) → IsCanonicalSignature (newer ++ es) → IsCanonicalSignature es
canonical_rest [] es h = h
canonical_rest (f ∷ newer) es h = canonical_rest newer es h.0

-- an entry of the session, with a table that agrees with the session's
module _ (v : View) (newer older : List Entry) (e : Entry) (table : Table) (o : IsViewInOrder v) (i : v.parameters.implicit ≡ false) (room : HasRoom (scene_of v)) (split : v.signature ≡ newer ++ e ∷ older)
    (agrees : AgreeOn (scene_of v) older table) where
  canonical : IsCanonicalSignature (e ∷ older)
  canonical = canonical_rest newer (e ∷ older) (subst IsCanonicalSignature split o.canonical)

  found : entry v.signature (length older) ≡ Some e
  found = ap (λ es. entry es (length older)) split ∙ (among newer older e).is

  order : IsInOrder (scene_of v) older table
  order = record {
    over = record { newer = newer ++ e ∷ []; entries = split ∙ sym (append_assoc newer (e ∷ []) older); canonical = canonical.0; preferences = o.preferences; room = room };
    hides = i;
    names = o.names;
    rows = o.rows;
    agrees = agrees;
  }

  typed : IsDeclared e.body → IsTypedEntry older e
  typed d = record { declared = d; typed = canonical.1.typed; name = o.names (length older) e found; hints = o.hints (length older) e found }

  typed_definition : (M : Term) (A : LfType) (b : Bool) → e.body ≡ declare_definition M A b → IsTypedDefinition older e (Some e.name) M A b
  typed_definition M A b d = record { defines = d; typed = canonical.1.typed; word = (refl, o.names (length older) e found); hints = o.hints (length older) e found }

  -- its line is read back
  open_line_back : HasOpenLine (scene_of v) e → LineReadsBack (scene_of v) older table e
  open_line_back open_line text after from h = by_body e.body refl open_line
    where
      declared : (d : Body) → e.body ≡ d → IsDeclared d → IsOpenEntry (scene_of v) e → ReadsAs older table text from (from + length (declaration_line (scene_of v) e)) e.name d
      declared d q i open_entry =
          subst (ReadsAs older table text from (from + length (declaration_line (scene_of v) e)) e.name) q (open_reads_back (scene_of v) older table e text after from order (typed (subst IsDeclared (sym q) i)) open_entry h)

      by_body : (d : Body) → e.body ≡ d → IsOpen (scene_of v) e d → ReadsBody older table text from (from + length (declaration_line (scene_of v) e)) e.name d
      by_body (declare_family K) q open_entry = declared (declare_family K) q tt open_entry
      by_body (declare_constant A) q open_entry = declared (declare_constant A) q tt open_entry
      by_body (declare_definition M A b) q open_definition = open_definition_back (scene_of v) older table e (Some e.name) M A b text after from order (typed_definition M A b q) open_definition h

  pub line_back : HasNoImplicit (scene_of v) → HasPlainLine (scene_of v) e → LineReadsBack (scene_of v) older table e
  line_back none plain text after from h = by_body e.body refl
    where
      whole : (d : Body) → e.body ≡ d → EachIs IsPlainByte (drop (length (render (keyword d))) (declaration_line (scene_of v) e))
      whole d q = subst (λ x. EachIs IsPlainByte (drop (length (render (keyword x))) (declaration_line (scene_of v) e))) q plain

      declared : (d : Body) → e.body ≡ d → IsDeclared d → EachIs IsPlainByte (declaration_line (scene_of v) e) → ReadsAs older table text from (from + length (declaration_line (scene_of v) e)) e.name d
      declared d q i all =
          subst (ReadsAs older table text from (from + length (declaration_line (scene_of v) e)) e.name) q (reads_back (scene_of v) older table e text after from order (typed (subst IsDeclared (sym q) i)) none all h)

      by_body : (d : Body) → e.body ≡ d → ReadsBody older table text from (from + length (declaration_line (scene_of v) e)) e.name d
      by_body (declare_family K) q = declared (declare_family K) q tt (whole (declare_family K) q)
      by_body (declare_constant A) q = declared (declare_constant A) q tt (whole (declare_constant A) q)
      by_body (declare_definition M A b) q = definition_back (scene_of v) older table e (Some e.name) M A b text after from order (typed_definition M A b q) none plain h

pub kept_back : KeptReadsBack
kept_back v o i room none newer older e split plain = line_back v newer older e v.fixities o i room split (λ x q. refl) none plain

pub open_back : OpenReadsBack
open_back v newer older e o i room split open_line = open_line_back v newer older e v.fixities o i room split (λ x q. refl) open_line

-- an entry that has a name is in the scene after it
no_hole : (x : List ℕ) → IsName x → bytes_eq x (codes "_") ≡ false
no_hole x n = by_test (bytes_eq x (codes "_")) refl
  where
    by_test : (b : Bool) → bytes_eq x (codes "_") ≡ b → b ≡ false
    by_test true e = let clash : Name ≡ Underscore = sym n.free ∙ ap fixed_word ((bytes_decides x (codes "_")).0 e) in cc
    by_test false e = refl

scene_is : (v : View) (e : Entry) → IsName e.name → scene_after (scene_of v) e ≡ scene_of (with_entry v e)
scene_is v e n = cond-false (bytes_eq e.name (codes "_")) (scene_of v) (scene_of (with_entry v e)) (no_hole e.name n)

-- the table before it agrees with the one after it at each name that isn't its own
agree_before : (v : View) (e : Entry) → AgreeOn (scene_of (with_entry v e)) v.signature v.fixities
agree_before v e x q = by_test (bytes_eq e.name x) refl q
  where
    elsewhere : (b : Bool) → eq_by_cmp name_order x e.name ≡ b → bytes_eq e.name x ≡ false → get v.fixities x ≡ cond b None (get v.fixities x)
    elsewhere true h n = let clash : true ≡ false = sym ((bytes_decides e.name x).1 (sym (same_name x e.name h))) ∙ n in cc
    elsewhere false h n = refl

    by_test : (b : Bool) → bytes_eq e.name x ≡ b → cond b (Some (length v.signature)) (number_of v.signature x) ≡ number_of v.signature x → get v.fixities x ≡ get (remove v.fixities e.name) x
    by_test true n k = let l = newest_below v.signature x (length v.signature) (sym k) in absurd (omega (arith, l))
    by_test false n k = elsewhere (eq_by_cmp name_order x e.name) refl n ∙ sym (get-remove nat_list_cmp_total v.fixities e.name x)

new_named : (v : View) (e : Entry) → IsViewInOrder (with_entry v e) → IsName e.name
new_named v e o = o.names (length v.signature) e (among [] v.signature e).is

pub new_line_back : (v : View) (e : Entry) → IsViewInOrder (with_entry v e) → v.parameters.implicit ≡ false → HasRoom (scene_of (with_entry v e)) → HasNoImplicit (scene_of (with_entry v e))
    → HasPlainLine (scene_of (with_entry v e)) e → LineReadsBack (scene_of (with_entry v e)) v.signature v.fixities e
new_line_back v e o i room none plain = line_back (with_entry v e) [] v.signature e v.fixities o i room refl (agree_before v e) none plain

pub new_back : NewReadsBack
new_back v e o i room none plain =
    let same = scene_is v e (new_named v e o) in
    subst (λ s. LineReadsBack s v.signature v.fixities e) (sym same) (new_line_back v e o i room none (subst (λ s. HasPlainLine s e) same plain))

-- what an accepted text reports of the entry that it declares
line_told : (v : View) (e : Entry) → IsName e.name → told v (entry_line v e) ≡ told v (declaration_line (scene_of (with_entry v e)) e ++ codes "\n")
unfolding entry_line
line_told v e n = ap (λ s. told v (declaration_line s e ++ codes "\n")) (scene_is v e n)

of_new : (v : View) (report : Reported) (e : Entry) → report ≡ entry_report v e → IsViewInOrder (with_entry v e) → v.parameters.implicit ≡ false → HasRoom (scene_of (with_entry v e)) → Reports v (with_entry v e) report e
of_new v report e says o i room = record {
  shows = says ∙ ap lines_alone (line_told v e (new_named v e o));
  open_reads_back = λ open_line. open_line_back (with_entry v e) [] v.signature e v.fixities o i room refl (agree_before v e) open_line;
  reads_back = λ none plain. new_line_back v e o i room none plain;
}

same_first : (e f : Entry) (es : List Entry) → e ∷ es ≡ f ∷ es → e ≡ f
same_first e f es h = cc

no_more : (e : Entry) (es : List Entry) → es ≡ e ∷ es → ⊥
no_more e es h = let n = ap length h in omega (arith, n)

made_back : (v w : View) (words : List Lexeme) (report : Reported) (e : Entry) → AreSpelled words → Makes v words report w → w.signature ≡ e ∷ v.signature → IsViewInOrder v → v.parameters.implicit ≡ false → HasRoom (scene_of w) → Reports v w report e
made_back v w words report e all m grows o i room = by_read m.read m.does
  where
    in_order : IsViewInOrder w
    in_order = making_keeps v w words report all m o

    -- the entry that was kept is this one
    by_entry : (f : Entry) → w ≡ with_entry v f → report ≡ entry_report v f → Reports v w report e
    by_entry f keeps says =
        let same : f ≡ e = same_first f e v.signature (sym (ap (λ (u : View). u.signature) keeps) ∙ grows) in
        let is : w ≡ with_entry v e = keeps ∙ ap (with_entry v) same in
        subst (λ u. Reports v u report e) (sym is)
        (of_new v report e (says ∙ ap (entry_report v) same) (subst IsViewInOrder is in_order) i (subst (λ u. HasRoom (scene_of u)) is room))

    by_declaration : (d : Declaration) → Does v d report w → Reports v w report e
    by_declaration (declare c at U) h = by_entry h.entry h.keeps h.says
    by_declaration (define None A M b) h = absurd (no_more e v.signature (sym (ap (λ (u : View). u.signature) h.keeps) ∙ grows))
    by_declaration (define (Some c) A M b) h = by_entry h.entry h.keeps h.says
    by_declaration (prefer b x y) h = absurd (no_more e v.signature (sym (ap (λ (u : View). u.signature) h.keeps) ∙ grows))
    by_declaration (give fix names) h = absurd (no_more e v.signature (sym (ap (λ (u : View). u.signature) h.keeps) ∙ grows))

    by_read : (x : Read) → ReadDoes v x report w → Reports v w report e
    by_read (reading.plain d) h = by_declaration d h
    by_read (reading.check c) h = absurd (no_more e v.signature (sym (checked_parts v w c report h).0 ∙ grows))
    by_read (reading.searching (searches.query x t q)) h = absurd (no_more e v.signature (sym (ap (λ (u : View). u.signature) h.keeps) ∙ grows))
    by_read (reading.searching (searches.solve c at A)) h = by_entry h.entry h.keeps h.says

pub report_back : ReportReadsBack
report_back v w text report e a grows o i room = made_back v w a.words report e (written_spelled a.written.written) a.makes grows o i room

pub report_from_back : ReportFromReadsBack
report_from_back v w text report from upto e a grows o i room = made_back v w a.words report e (written_spelled a.written) a.makes grows o i room
