-- A line that reads back is accepted.
use Rattle.std.proofs.Common.{◌≡◌, ℕ, zero, suc, ◌+◌, ◌-◌, ◌≤◌, List, [], ◌∷◌, length, Bool, true, false, Option, None, Some, refl, sym, ap, ◌∙◌, subst, arith, append-nil, ◌++◌}
use Rattle.std.specs.Bool.{MatchBool}
use Rattle.lf.specs.Depth.{depth_limit}
use Rattle.lf.specs.Syntax.{LfType, Term as LfTerm}
use Rattle.lf.specs.Entries.{Body, Entry, body_quantifiers, declare_constant, declare_definition, declare_family, signature_of, BodyIsTyped, BodyIsWithin, IsCanonicalEntry, IsCanonicalSignature}
use Rattle.law_explicit_form.specs.Completion.{IsCompletion, Completes}
use Rattle.law_explicit_form.proofs.Hints.{body_hints}
use Rattle.tw_lexer.specs.Places.{place_of}
use Rattle.tw_lexer.specs.Tokens.{token, between, ends, ThroughDot, IsFew, token_count}
use Rattle.tw_lexer.specs.declared.place.Place.{Place}
use Rattle.tw_lexer.specs.declared.token.Token.{Token}
use Rattle.tw_lexer.specs.declared.token.TokenKind.TheVariants.{End}
use Rattle.tw_lexer.proofs.Finds.{seek-end}
use Rattle.tw_lexer.proofs.Firsts.{IsToken, first_token-IsToken}
use Rattle.tw_lexer.proofs.Lists.{count-more}
use Rattle.tw_parse.specs.Faults.{IsKnown}
use Rattle.tw_parse.specs.Keywords.{is_built}
use Rattle.tw_parse.specs.Nesting.{first_too_deep}
use Rattle.tw_parse.specs.Outlines.{Table, Shapes, Head, a_check, a_definition, an_abbreviation, declares, defines, defines_typed, prefers, prefers_both, gives}
use Rattle.tw_parse.specs.Readings.{Declares, MeansAll, declared, defined, defined_typed, preferred, given}
use Rattle.tw_parse.specs.Syntax.{Term, DeclarationOf, Declaration, declare, define}
use Rattle.tw_parse.specs.Outlines.{Outline}
use Rattle.tw_parse.specs.Words.{Lexeme, lexemes}
use Rattle.tw_parse.specs.declared.words.Word.TheVariants.{Name, Keyword, Underscore}
use Rattle.tw_print.specs.Shown.{declaration_line}
use Rattle.tw_recon.specs.Hints.{fitted, written_hints}
use Rattle.tw_recon.specs.declared.fault.ReconFault.{ReconFault}
use Rattle.tw_recon.specs.declared.fault.ReconFault.TheVariants.{Mismatch, NoMemory, TooDeep}
use Rattle.law_explicit_agrees.specs.Definitions.{IsExplicitDefinition, DefinitionMayBeRefused}
use Rattle.law_explicit_agrees.specs.Reconstructed.{MayBeRefused}
use Rattle.law_explicit_agrees.proofs.Only.{no_other_cause}
use Rattle.law_explicit_agrees.proofs.OnlyDefinitions.{definition_no_other}
use Rattle.law_explicit_agrees.proofs.Definitions.{explicit_definition_reconstructed}
use Rattle.law_explicit_agrees.proofs.Reconstructed.{explicit_reconstructed}
use Rattle.tw_decl.specs.View.{View, scene_of, with_entry}
use Rattle.tw_decl.specs.Declaration.{IsWrittenAlone, entry_report, Makes}
use Rattle.tw_decl.specs.Obstacles.{HasObstacle}
use Rattle.tw_decl.specs.Reading as reading
use Rattle.tw_decl.specs.Reading.{IsReadAs}
use Rattle.tw_decl.specs.declared.refusal.Refusal.{Refusal}
use Rattle.law_reading_back.specs.Laws.{ReadsAs, ReadsAsDefinition}
use Rattle.law_session_order.specs.Laws.{ReadBackIsAccepted, KeptIsAccepted, OpenIsAccepted, NewIsAccepted}
use Rattle.law_session_order.specs.Order.{IsDeepOrMemory, IsViewInOrder, LineReadsBack, IsWithinLimits, AcceptsAgain, ReadsBody}
use Rattle.law_session_order.proofs.Refusing.{nothing_else, refused_at_most_so}
use Rattle.law_session_order.proofs.Reading.{canonical_rest, kept_back, open_back, new_line_back}

-- a text has no more tokens than bytes, and one more
last_counted : (text : List ℕ) (from upto : ℕ) (t : Token) (ts : List Token) (b : Bool) → ends t.kind ≡ b → IsToken text from t → MatchBool b ((ts ≡ []) × (upto ≡ t.upto)) (ThroughDot text t.upto ts upto)
    → (ThroughDot text t.upto ts upto → token_count ts ≤ length text - t.upto + 1) → token_count (t ∷ ts) ≤ length text - from + 1
last_counted text from upto t ts true e i (none, q) next =
    let c = count-more t [] in
    let n : token_count (t ∷ []) ≤ length text - from + 1 = omega (arith, c) in
    subst (λ us. token_count (t ∷ us) ≤ length text - from + 1) (sym none) n
last_counted text from upto t ts false e i h next =
    let c = count-more t ts in
    let r = next h in
    let l = i.long e in omega (arith, c, r, l, i.later, i.within)

counted : (text : List ℕ) (from upto : ℕ) (ts : List Token) → from ≤ length text → ThroughDot text from ts upto → token_count ts ≤ length text - from + 1
counted text from upto [] l h = absurd h
counted text from upto (t ∷ ts) l (f, h) =
    let i = first_token-IsToken text from t l f in last_counted text from upto t ts (ends t.kind) refl i h (λ k. counted text t.upto upto ts i.within k)

-- a name with its kind or type begins with no keyword
begins_known : (table : Table) (ws : List Lexeme) (name : List ℕ) (at : Place) (U : Term) → Declares table ws (declare name at U) → IsKnown ws
begins_known table ws name at U (D, shapes, meaning) = by_shape shapes meaning refl
  where
    by_shape : {xs : List Lexeme} {E : DeclarationOf Outline} {d : Declaration} → Shapes table xs E → MeansAll E d → d ≡ declare name at U → IsKnown xs
    by_shape (declares {x = x} w k s g) (declared m) e q = let clash : Name ≡ Keyword = sym w ∙ q in cc
    by_shape (defines h w s g) (defined m) e q = cc
    by_shape (defines_typed h w s v t g) (defined_typed m n) e q = cc
    by_shape (prefers w f g h i j) preferred e q = cc
    by_shape (prefers_both w f g h i j k l) preferred e q = cc
    by_shape (gives words xs d w f g h i) given e q = cc

-- a definition begins with no keyword but that of an abbreviation
head_known : {xs rest : List Lexeme} {c : Option (List ℕ)} {b : Bool} → Head xs c b rest → IsKnown xs
head_known (a_definition w) q = let clash : Name ≡ Keyword = sym w ∙ q in cc
head_known (a_check w) q = let clash : Underscore ≡ Keyword = sym w ∙ q in cc
head_known (an_abbreviation k f w) q = ap is_built f

define_known : (table : Table) (ws : List Lexeme) (c : Option (List ℕ)) (A : Option Term) (M : Term) (b : Bool) → Declares table ws (define c A M b) → IsKnown ws
define_known table ws c A M b (D, shapes, meaning) = by_shape shapes meaning refl
  where
    by_shape : {xs : List Lexeme} {E : DeclarationOf Outline} {d : Declaration} → Shapes table xs E → MeansAll E d → d ≡ define c A M b → IsKnown xs
    by_shape (declares w k s g) (declared m) e q = cc
    by_shape (defines h w s g) (defined m) e q = head_known h q
    by_shape (defines_typed h w s v t g) (defined_typed m n) e q = head_known h q
    by_shape (prefers w f g h i j) preferred e q = cc
    by_shape (prefers_both w f g h i j k l) preferred e q = cc
    by_shape (gives words xs d w f g h i) given e q = cc

-- a completion of the same body may stand where the entry does
stands_too : (es : List Entry) (c : List ℕ) (U : Term) (e f : Entry) → IsCanonicalEntry (signature_of es) e → IsCompletion es c U f → f.body ≡ e.body → IsCanonicalEntry (signature_of es) f
stands_too es c U e f k h same = record {
  typed = subst (BodyIsTyped (signature_of es)) (sym same) k.typed;
  within = subst (BodyIsWithin depth_limit) (sym same) k.within;
  implicit_lead = let i = h.implicit in omega (arith, i);
  hint_each = ap length h.hint_each ∙ body_hints es U f.body h.body;
}

-- an explicit declaration that gives an entry fails at most as too deep, or for want of memory
at_most : (es : List Entry) (d : Declaration) (e : Entry) → Completes es d e → (fault : ReconFault) → MayBeRefused es d fault → DefinitionMayBeRefused fault
at_most es d e k Mismatch h = absurd (h e k)
at_most es d e k TooDeep h = tt
at_most es d e k NoMemory h = tt
at_most es d e k fault h = absurd h

-- no bracket of the tokens from a byte on is nested too deep
abbrev AreShallow : List ℕ → ℕ → ℕ → Type 0
AreShallow text from upto = (tokens : List Token) → ThroughDot text from tokens upto → first_too_deep [] 0 (lexemes text tokens) ≡ None

-- what stands in a text from a byte on declares an entry of the same name and body, without an implicit quantifier
pub record IsMadeAgain (v : View) (e : Entry) (text : List ℕ) (from upto : ℕ) : Type 0 where
  pub tokens : List Token
  pub through : ThroughDot text from tokens upto
  pub entry : Entry
  pub declaration : Declaration
  pub reads : IsReadAs v (lexemes text tokens) declaration
  pub makes : Makes v (lexemes text tokens) (entry_report v entry) (with_entry v entry)
  pub free : (first : Place) (refusal : Refusal) → HasObstacle v declaration first refusal → IsDeepOrMemory refusal
  pub name : entry.name ≡ e.name
  pub body : entry.body ≡ e.body
  pub implicit : entry.implicit ≡ zero

declared_made : (v : View) (e : Entry) (text : List ℕ) (from upto : ℕ) → IsCanonicalSignature v.signature → ReadsAs v.signature v.fixities text from upto e.name e.body → IsCanonicalEntry (signature_of v.signature) e → AreShallow text from upto → IsMadeAgain v e text from upto
declared_made v e text from upto sound r k shallow =
    let words = lexemes text r.tokens in
    let h : IsCompletion v.signature e.name r.written r.entry = r.completes in
    let stands : IsCanonicalEntry (signature_of v.signature) r.entry = stands_too v.signature e.name r.written e r.entry k h r.same in
    let reads : IsReadAs v words (declare e.name r.at r.written) = record { begins = (begins_known v.fixities words e.name r.at r.written r.reads, shallow r.tokens r.through); reads = r.reads } in
    let makes : Makes v words (entry_report v r.entry) (with_entry v r.entry) = record {
      read = reading.plain (declare e.name r.at r.written);
      reads = reads;
      does = record {
        entry = r.entry;
        reconstructs = explicit_reconstructed v.signature sound (declare e.name r.at r.written) r.entry r.explicit h stands;
        stands = stands;
        says = refl;
        keeps = refl;
      };
    } in
    let d = declare e.name r.at r.written in
    record {
      tokens = r.tokens;
      through = r.through;
      entry = r.entry;
      declaration = d;
      reads = reads;
      makes = makes;
      free = nothing_else v d (λ fault q. at_most v.signature d r.entry h fault (no_other_cause v.signature sound d r.explicit fault q));
      name = h.name;
      body = r.same;
      implicit = h.implicit;
    }

length_fitted : (n : ℕ) (hs : List (Option (List ℕ))) → length (fitted n hs) ≡ n
length_fitted zero hs = refl
length_fitted (suc n) [] = ap suc (length_fitted n [])
length_fitted (suc n) (h ∷ hs) = ap suc (length_fitted n hs)

-- the entry of a definition that is read back
module _ (v : View) (e : Entry) (text : List ℕ) (from upto : ℕ) (M : LfTerm) (A : LfType) (b : Bool) (r : ReadsAsDefinition v.signature v.fixities text from upto (Some e.name) M A b) where
  abbrev definition : Declaration
  definition = define (Some e.name) (Some r.type_written) r.term_written b

  abbrev again : Entry
  again = record { name = e.name; implicit = zero; hints = fitted (body_quantifiers (declare_definition M A b)) (written_hints definition); body = declare_definition M A b }

  definition_made : e.body ≡ declare_definition M A b → IsCanonicalSignature v.signature → IsCanonicalEntry (signature_of v.signature) e → AreShallow text from upto → IsMadeAgain v e text from upto
  definition_made is sound k shallow =
      let words = lexemes text r.tokens in
      let stands : IsCanonicalEntry (signature_of v.signature) again = record {
        typed = subst (BodyIsTyped (signature_of v.signature)) is k.typed;
        within = subst (BodyIsWithin depth_limit) is k.within;
        implicit_lead = omega arith;
        hint_each = length_fitted (body_quantifiers (declare_definition M A b)) (written_hints definition);
      } in
      let reads : IsReadAs v words definition = record { begins = (define_known v.fixities words (Some e.name) (Some r.type_written) r.term_written b r.reads, shallow r.tokens r.through); reads = r.reads } in
      let makes : Makes v words (entry_report v again) (with_entry v again) = record {
        read = reading.plain definition;
        reads = reads;
        does = record {
          entry = again;
          reconstructs = explicit_definition_reconstructed v.signature sound (Some e.name) r.type_written r.term_written b A M (record { type_form = r.type_form; term_form = r.term_form }) (r.type_gives, r.term_gives) again (record { name = refl; body = refl; implicit = refl; hints = refl });
          stands = stands;
          says = refl;
          keeps = refl;
        };
      } in
      let form : IsExplicitDefinition v.signature r.type_written r.term_written = record { type_form = r.type_form; term_form = r.term_form } in
      record {
        tokens = r.tokens;
        through = r.through;
        entry = again;
        declaration = definition;
        reads = reads;
        makes = makes;
        free = nothing_else v definition (λ fault q. definition_no_other v.signature sound (Some e.name) r.type_written r.term_written b A M form (r.type_gives, r.term_gives) fault q);
        name = refl;
        body = sym is;
        implicit = refl;
      }

pub read_made : (v : View) (e : Entry) (text : List ℕ) (from upto : ℕ) → IsCanonicalSignature v.signature → ReadsBody v.signature v.fixities text from upto e.name e.body → IsCanonicalEntry (signature_of v.signature) e → AreShallow text from upto → IsMadeAgain v e text from upto
read_made v e text from upto sound r k shallow = by_body e.body refl r
  where
    declared_body : (d : Body) → e.body ≡ d → ReadsAs v.signature v.fixities text from upto e.name d → IsMadeAgain v e text from upto
    declared_body d q s = declared_made v e text from upto sound (subst (ReadsAs v.signature v.fixities text from upto e.name) (sym q) s) k shallow

    by_body : (d : Body) → e.body ≡ d → ReadsBody v.signature v.fixities text from upto e.name d → IsMadeAgain v e text from upto
    by_body (declare_family K) q s = declared_body (declare_family K) q s
    by_body (declare_constant A) q s = declared_body (declare_constant A) q s
    by_body (declare_definition M A b) q s = definition_made v e text from upto M A b s q sound k shallow

read_accepted : (v : View) (e : Entry) (text : List ℕ) (upto : ℕ) → upto ≡ length text → IsCanonicalSignature v.signature → ReadsBody v.signature v.fixities text 0 upto e.name e.body → IsCanonicalEntry (signature_of v.signature) e → IsWithinLimits text → AcceptsAgain v text e
read_accepted v e text upto all sound r k limits =
    let m = read_made v e text 0 upto sound r k (λ tokens h. limits.shallow tokens upto h) in
    let few : IsFew m.tokens = let c = counted text 0 upto m.tokens (omega arith) m.through in let l = limits.few in omega (arith, c, l) in
    let words = lexemes text m.tokens in
    let end = place_of text upto in
    let next = token text End upto upto in
    let written : IsWrittenAlone text words end next = record {
      upto = upto;
      written = record { tokens = m.tokens; through = m.through; few = few; spelled = refl; behind = refl };
      follower = seek-end text between upto (omega (arith, all));
    } in
    record {
      report = entry_report v m.entry;
      entry = m.entry;
      accepts = record { words = words; end = end; next = next; written = written; alone = refl; makes = m.makes };
      refused = refused_at_most_so v text words end next written refl m.declaration m.reads m.free;
      name = m.name;
      body = m.body;
    }

pub read_back_accepted : ReadBackIsAccepted
read_back_accepted s v e sound back k limits =
    let text = declaration_line s e in
    let n : 0 + length text ≡ length text = omega arith in
    read_accepted v e text (0 + length text) n sound (back text [] 0 (sym (append-nil text))) k limits

-- a line that reads back over the entries before it is accepted by a session that has these and the same operators
older_accepted : (v u : View) (newer older : List Entry) (e : Entry) → IsViewInOrder v → v.signature ≡ newer ++ e ∷ older → u.signature ≡ older → u.fixities ≡ v.fixities → IsWithinLimits (declaration_line (scene_of v) e)
    → LineReadsBack (scene_of v) older v.fixities e → AcceptsAgain u (declaration_line (scene_of v) e) e
older_accepted v u newer older e o split same rows limits back =
    let canonical : IsCanonicalSignature (e ∷ older) = canonical_rest newer (e ∷ older) (subst IsCanonicalSignature split o.canonical) in
    read_back_accepted (scene_of v) u e (subst IsCanonicalSignature (sym same) canonical.0)
    (subst (λ es. LineReadsBack (scene_of v) es u.fixities e) (sym same) (subst (λ t. LineReadsBack (scene_of v) older t e) (sym rows) back))
    (subst (λ es. IsCanonicalEntry (signature_of es) e) (sym same) canonical.1) limits

pub kept_accepted : KeptIsAccepted
kept_accepted v u newer older e o i room none split plain same rows limits = older_accepted v u newer older e o split same rows limits (kept_back v o i room none newer older e split plain)

pub open_accepted : OpenIsAccepted
open_accepted v u newer older e o i room split open_line same rows limits = older_accepted v u newer older e o split same rows limits (open_back v newer older e o i room split open_line)

pub new_accepted : NewIsAccepted
new_accepted v e o i room none plain limits = read_back_accepted _ v e o.canonical.0 (new_line_back v e o i room none plain) o.canonical.1 limits
