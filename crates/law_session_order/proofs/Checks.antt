-- What is reported of a definition without a name is read back.
use Rattle.std.proofs.Common.{◌≡◌, ℕ, ◌+◌, List, [], ◌∷◌, ◌++◌, length, Bool, false, Option, Some, None, refl, sym, ap, ◌∙◌, subst}
use Rattle.std.specs.Prelude.{codes}
use Rattle.std.specs.Str.{bytes_eq}
use Rattle.std.proofs.lemmas.Bool.{cond-true}
use Rattle.std.specs.Cmp.Lexicographic.{bytes_decides}
use Rattle.lf.specs.Entries.{Body, Entry, declare_constant, declare_definition, declare_family}
use Rattle.lf.specs.Syntax.{LfType, Skeleton, Term as LfTerm}
use Rattle.lf_elaboration.specs.Completions.{FreeValue}
use Rattle.lf_elaboration.specs.Principal.{WrittenBody, written_constant, written_definition, written_definition_of, written_family, CompletesBody, body_over}
use Rattle.lf_elaboration.specs.Written.{Written, WrittenType}
use Rattle.lf_unification.specs.Offering.{lambda_over, pi_over}
use Rattle.tw_approx.specs.Readings.{Reading, and_then}
use Rattle.tw_resolve.specs.Resolved.{taken_whole, with_one, definition_read, names_of}
use Rattle.tw_resolve.specs.Resolving.{made, resolved_term, resolved_type, with_both}
use Rattle.tw_fixity.specs.Names.{Names}
use Rattle.tw_parse.specs.Outlines.{Outline, Table, Shapes, Head, a_check, a_definition, an_abbreviation, declares, defines, defines_typed, prefers, prefers_both, gives}
use Rattle.tw_parse.specs.Readings.{Declares, MeansAll, declared, defined, defined_typed, preferred, given}
use Rattle.tw_parse.specs.Syntax.{Term, Declaration, DeclarationOf, define}
use Rattle.tw_parse.specs.Words.{Lexeme}
use Rattle.tw_print.specs.Shown.{declaration_line}
use Rattle.tw_recon.specs.Reconstruction.{IsReconstructed}
use Rattle.tw_decl.specs.View.{View, with_entry, scene_of, told}
use Rattle.tw_decl.specs.Declaration.{entry_line, Enters, Makes, ReadDoes}
use Rattle.tw_decl.specs.Reading as reading
use Rattle.tw_decl.specs.Reading.{IsReadAs, Read, Reads}
use Rattle.tw_decl.specs.Reports.{Reported, lines_alone}
use Rattle.law_reading_back.specs.Laws.{IsInOrder, IsOpenDefinition, IsTypedDefinition}
use Rattle.law_reading_back.specs.Names.{HasRoom, HasNoImplicit}
use Rattle.law_reading_back.proofs.Defined.{definition_back, open_definition_back}
use Rattle.law_session_order.specs.Laws.{CheckReportReadsBack, CheckReportFromReadsBack, ReportsCheck}
use Rattle.law_session_order.specs.Order.{CheckReadsBack, HasOpenLine, HasPlainLine, IsOpen, IsViewInOrder, ReadsCheck}
use Rattle.law_session_order.specs.Words.{AreSpelled}
use Rattle.law_session_order.proofs.Binders.{defined_named, free_are_named}
use Rattle.law_session_order.proofs.Keeping.{reconstructed_good, written_spelled}

-- a definition without a name is no abbreviation
head_plain : {xs rest : List Lexeme} {c : Option (List ℕ)} {b : Bool} → Head xs c b rest → c ≡ None → b ≡ false
head_plain (a_definition w) q = cc
head_plain (a_check w) q = refl
head_plain (an_abbreviation k f w) q = cc

check_plain : (table : Table) (ws : List Lexeme) (A : Option Term) (M : Term) (b : Bool) → Declares table ws (define None A M b) → b ≡ false
check_plain table ws A M b (D, shapes, meaning) = by_shape shapes meaning refl
  where
    by_shape : {xs : List Lexeme} {E : DeclarationOf Outline} {d : Declaration} → Shapes table xs E → MeansAll E d → d ≡ define None A M b → b ≡ false
    by_shape (declares w k s g) (declared m) e = cc
    by_shape (defines {name = c} {b = d} h w s g) (defined m) e = let n : c ≡ None = cc in let p : d ≡ b = cc in sym p ∙ head_plain h n
    by_shape (defines_typed {name = c} {b = d} h w s v t g) (defined_typed m n) e = let n : c ≡ None = cc in let p : d ≡ b = cc in sym p ∙ head_plain h n
    by_shape (prefers w f g h i j) preferred e = cc
    by_shape (prefers_both w f g h i j k l) preferred e = cc
    by_shape (gives words xs d w f g h i) given e = cc

-- it is written as a definition
abbrev IsDefinition : Bool → WrittenBody → Type 0
IsDefinition b (written_family k) = ⊥
IsDefinition b (written_constant U) = ⊥
IsDefinition b (written_definition M c) = c ≡ b
IsDefinition b (written_definition_of M U c) = c ≡ b

untyped_written : (b : Bool) (w : WrittenBody) (r : Reading Written) → taken_whole (with_one (λ P. written_definition P b) r) ≡ Some w → IsDefinition b w
untyped_written b w None e = absurd cc
untyped_written b w (Some (P, [])) e = let f : written_definition P b ≡ w = cc in subst (IsDefinition b) f refl
untyped_written b w (Some (P, s ∷ ss)) e = absurd cc

typed_rest : (b : Bool) (w : WrittenBody) (U : WrittenType) (r : Reading Written) → taken_whole (and_then r (made (λ V P. written_definition_of P V b) U)) ≡ Some w → IsDefinition b w
typed_rest b w U None e = absurd cc
typed_rest b w U (Some (P, [])) e = let f : written_definition_of P U b ≡ w = cc in subst (IsDefinition b) f refl
typed_rest b w U (Some (P, s ∷ ss)) e = absurd cc

typed_written : (b : Bool) (w : WrittenBody) (r : Reading WrittenType) (f : List Skeleton → Reading Written) → taken_whole (with_both (made (λ V P. written_definition_of P V b)) r f) ≡ Some w → IsDefinition b w
typed_written b w None f e = absurd cc
typed_written b w (Some (U, p)) f e = typed_rest b w U (f p) e

definition_written : (es : List Entry) (free : Names) (A : Option Term) (M : Term) (b : Bool) (o : List Skeleton) (w : WrittenBody) → taken_whole (definition_read es free [] A M b o) ≡ Some w → IsDefinition b w
definition_written es free None M b o w e = untyped_written b w (resolved_term es free [] M o) e
definition_written es free (Some A) M b o w e = typed_written b w (resolved_type es free [] A o) (resolved_term es free [] M) e

-- so its body is that of a definition
record IsDefined (b : Bool) (d : Body) : Type 0 where
  pub term : LfTerm
  pub type : LfType
  pub is : d ≡ declare_definition term type b

completed_defined : (es : List Entry) (F : List LfType) (frees : List FreeValue) (b : Bool) (w : WrittenBody) (d : Body) → IsDefinition b w → CompletesBody es F frees w d → IsDefined b d
completed_defined es F frees b (written_family k) d i h = absurd i
completed_defined es F frees b (written_constant U) d i h = absurd i
completed_defined es F frees b (written_definition M c) (declare_family K) i h = absurd h
completed_defined es F frees b (written_definition M c) (declare_constant A) i h = absurd h
completed_defined es F frees b (written_definition M c) (declare_definition N A d) i h = record { term = N; type = A; is = ap (declare_definition N A) (sym h.0 ∙ i) }
completed_defined es F frees b (written_definition_of M U c) (declare_family K) i h = absurd h
completed_defined es F frees b (written_definition_of M U c) (declare_constant A) i h = absurd h
completed_defined es F frees b (written_definition_of M U c) (declare_definition N A d) i h = record { term = N; type = A; is = ap (declare_definition N A) (sym h.0 ∙ i) }

over : (F : List LfType) (b : Bool) (d : Body) → IsDefined b d → IsDefined b (body_over F d)
over F b d h = record { term = lambda_over F h.term; type = pi_over F h.type; is = ap (body_over F) h.is }

entry_defined : (es : List Entry) (A : Option Term) (M : Term) (b : Bool) (e : Entry) → IsReconstructed es (define None A M b) e → IsDefined b e.body
entry_defined es A M b e k =
    let w = definition_written es (names_of k.rows) A M b k.is_written.omitted k.written k.is_written.resolved in
    let d = over k.quantifiers b k.inner (completed_defined es k.quantifiers k.completed.frees b k.written k.inner w k.completed.principal.completion.completed) in
    record { term = d.term; type = d.type; is = k.is_entry.body ∙ d.is }

-- it is shown over the signature as it is
line_unnamed : (v : View) (e : Entry) → e.name ≡ codes "_" → told v (entry_line v e) ≡ told v (declaration_line (scene_of v) e ++ codes "\n")
unfolding entry_line
line_unnamed v e n = ap (λ s. told v (declaration_line s e ++ codes "\n")) (cond-true (bytes_eq e.name (codes "_")) (scene_of v) (scene_of (with_entry v e)) ((bytes_decides e.name (codes "_")).1 n))

module _ (v : View) (e : Entry) (o : IsViewInOrder v) (i : v.parameters.implicit ≡ false) (room : HasRoom (scene_of v)) (d : IsDefined false e.body) (typed : IsTypedDefinition v.signature e None d.term d.type false) where
  order : IsInOrder (scene_of v) v.signature v.fixities
  order = record {
    over = record { newer = []; entries = refl; canonical = o.canonical; preferences = o.preferences; room = room };
    hides = i;
    names = o.names;
    rows = o.rows;
    agrees = λ x q. refl;
  }

  open_check_back : HasOpenLine (scene_of v) e → CheckReadsBack (scene_of v) v.signature v.fixities e
  open_check_back line text after from h =
      let open_definition : IsOpenDefinition (scene_of v) e d.term d.type = subst (IsOpen (scene_of v) e) d.is line in
      subst (ReadsCheck v.signature v.fixities text from (from + length (declaration_line (scene_of v) e))) (sym d.is)
      (open_definition_back (scene_of v) v.signature v.fixities e None d.term d.type false text after from order typed open_definition h)

  check_back : HasNoImplicit (scene_of v) → HasPlainLine (scene_of v) e → CheckReadsBack (scene_of v) v.signature v.fixities e
  check_back none plain text after from h =
      subst (ReadsCheck v.signature v.fixities text from (from + length (declaration_line (scene_of v) e))) (sym d.is)
      (definition_back (scene_of v) v.signature v.fixities e None d.term d.type false text after from order typed none plain h)

-- what is made of it
unnamed_back : (v w : View) (words : List Lexeme) (report : Reported) (A : Option Term) (M : Term) (b : Bool) → AreSpelled words → Declares v.fixities words (define None A M b) → Enters v (define None A M b) report w
    → IsViewInOrder v → v.parameters.implicit ≡ false → HasRoom (scene_of v) → ReportsCheck v report
unnamed_back v w words report A M b all r h o i room =
    let k = h.reconstructs in
    let n = defined_named v.fixities words None A M b all r in
    let f = check_plain v.fixities words A M b r in
    let d : IsDefined false h.entry.body = subst (λ x. IsDefined x h.entry.body) f (entry_defined v.signature A M b h.entry k) in
    let typed : IsTypedDefinition v.signature h.entry None d.term d.type false = record {
      defines = d.is;
      typed = h.stands.typed;
      word = (k.is_entry.name, refl);
      hints = reconstructed_good v.signature (define None A M b) h.entry (λ x g. free_are_named v.fixities words (define None A M b) v.signature x all r g) n.1 k;
    } in
    record {
      entry = h.entry;
      unnamed = k.is_entry.name;
      shows = h.says ∙ ap lines_alone (line_unnamed v h.entry k.is_entry.name);
      open_reads_back = open_check_back v h.entry o i room d typed;
      reads_back = check_back v h.entry o i room d typed;
    }

made_check_back : (v w : View) (words : List Lexeme) (report : Reported) (A : Option Term) (M : Term) (b : Bool) (m : Makes v words report w) → m.read ≡ reading.plain (define None A M b) → AreSpelled words → IsViewInOrder v → v.parameters.implicit ≡ false → HasRoom (scene_of v)
    → ReportsCheck v report
made_check_back v w words report A M b m q all o i room =
    let r : IsReadAs v words (define None A M b) = subst (Reads v words) q m.reads in
    unnamed_back v w words report A M b all r.reads (subst (λ (x : Read). ReadDoes v x report w) q m.does) o i room

pub check_report_back : CheckReportReadsBack
check_report_back v w text report a A M b q o i room = made_check_back v w a.words report A M b a.makes q (written_spelled a.written.written) o i room

pub check_report_from_back : CheckReportFromReadsBack
check_report_from_back v w text report from upto a A M b q o i room = made_check_back v w a.words report A M b a.makes q (written_spelled a.written) o i room
