-- What is accepted keeps a session in order.
use Rattle.std.proofs.Common.{◌≡◌, ℕ, zero, suc, ◌-◌, ◌<◌, ◌≤◌, List, [], ◌∷◌, length, Bool, true, false, cond, Option, Some, None, refl, sym, ap, ◌∙◌, subst, arith, ◌++◌, inl, inr}
use Rattle.std.specs.Prelude.{◌&&◌, nat_le, reverse, slice_get}
use Rattle.std.specs.Str.{bytes_eq}
use Rattle.std.proofs.lemmas.Bool.{cond-false}
use Rattle.std.proofs.lemmas.Bool.Decides.{nat_tests}
use Rattle.std.proofs.lemmas.Map.Text.{is_eq-slice_cmp}
use Rattle.std.specs.Cmp.{eq_by_cmp_equiv, nat_cmp_total}
use Rattle.std.specs.Cmp.Lexicographic.{nat_list_cmp_total, bytes_decides}
use Rattle.std.specs.FinMap.{FinMap, empty, get, insert, remove, get-empty, get-insert, get-remove}
use Rattle.std.specs.Ordering.{eq_by_cmp, nat_cmp}
use Rattle.lf.specs.Entries.{Entry, declare_constant, entry, quantifiers, signature_of, body_quantifiers, IsCanonicalEntry, IsCanonicalSignature}
use Rattle.lf.specs.Variables.{same_number}
use Rattle.lf.proofs.Checker.{number_is}
use Rattle.tw_fixity.specs.Rows.{name_order}
use Rattle.tw_fixity.specs.declared.table.Fix.{Fix}
use Rattle.tw_fixity.specs.declared.table.Fix.TheVariants.{Infix, Prefix, Postfix}
use Rattle.tw_parse.specs.Outlines.{Table}
use Rattle.tw_parse.specs.Readings.{Declares}
use Rattle.std.proofs.lemmas.List.{reverse-append}
use Rattle.tw_approx.specs.Names.{IsFreeIn}
use Rattle.tw_lexer.specs.declared.place.Place.{Place}
use Rattle.tw_metas.specs.State.{joined}
use Rattle.tw_names.specs.Texts.{hints}
use Rattle.tw_parse.specs.Queries.{Query}
use Rattle.tw_parse.specs.Syntax.{Declaration, Term, declare, define, prefer, give}
use Rattle.tw_parse_checks.specs.Checks.{Check, mode_short, mode_full, block, worlds, terminates}
use Rattle.tw_parse_queries.specs.Searches.{Searches, query, solve}
use Rattle.tw_recon.specs.Queries.{IsGoalOf}
use Rattle.tw_search.specs.declared.answer.Answer.{Answer}
use Rattle.tw_signature.specs.Goal.{Goal}
use Rattle.tw_decl.specs.Solutions.{AreHints, NamedBy, solve_query}
use Rattle.tw_parse.specs.Words.{Lexeme}
use Rattle.tw_parse.specs.declared.decl.ExtName.{ExtName}
use Rattle.tw_print.specs.Names.{Preferences}
use Rattle.tw_print.specs.Shown as shown
use Rattle.tw_approx.specs.Answer.{HasRow, Rows}
use Rattle.tw_approx.specs.Names.{IsFreeVariable}
use Rattle.tw_recon.specs.Hints.{fitted, written_hints}
use Rattle.tw_recon.specs.Reconstruction.{IsReconstructed, declared_name}
use Rattle.tw_recon.proofs.OfRows.{AreOfRows, hints_of_rows}
use Rattle.tw_signature.specs.Names.{number_of}
use Rattle.tw_decl.specs.Reading.{Read, plain, check, searching, Reads}
use Rattle.tw_decl.specs.View.{View, with_chatter, with_implicit, with_steps, with_entry, scene_of}
use Rattle.tw_decl.specs.Declaration.{Checks, IsWritten, Enters, is_unnamed, GivesRows, Prefers, Does, ReadDoes, KeepsAnswer}
use Rattle.tw_decl.specs.Reports.{Reported}
use Rattle.tw_decl.specs.Operators.{entry_by, newest, explicit_count, operand_count, takes, all_take, with_rows}
use Rattle.law_reading_back.specs.Names.{IsName, AreGoodHints, PreferNames, HasGoodRows}
use Rattle.law_session_order.specs.Laws.{NewIsInOrder, SettingKeepsOrder, MakingKeepsOrder, AcceptingKeepsOrder, AcceptingFromKeepsOrder}
use Rattle.law_session_order.specs.Order.{IsViewInOrder}
use Rattle.law_session_order.specs.Words.{AreSpelled}
use Rattle.law_session_order.proofs.Identifiers.{tokens_spelled}
use Rattle.law_session_order.proofs.Binders.{declared_named, defined_named, free_are_named, hints_more, preferred_names, solved_named}

some_inj : {X : Type 0} {x y : X} → Some x ≡ Some y → x ≡ y
some_inj e = cc

-- rows by name
pub same_name : (p q : List ℕ) → eq_by_cmp name_order p q ≡ true → p ≡ q
same_name p q h = (bytes_decides p q).0 (sym (is_eq-slice_cmp p q) ∙ h)

own_name : (p : List ℕ) → eq_by_cmp name_order p p ≡ true
own_name p = (eq_by_cmp_equiv nat_list_cmp_total).refl p

-- a row that is left after one is taken away is that of another name
pub left_row : (t : Table) (name q : List ℕ) (fix : Fix) → get (remove t name) q ≡ Some fix → (bytes_eq name q ≡ false) × (get t q ≡ Some fix)
left_row t name q fix e = by_test (eq_by_cmp name_order q name) refl (sym (get-remove nat_list_cmp_total t name q) ∙ e)
  where
    unlike : (b : Bool) → (b ≡ true → ⊥) → b ≡ false
    unlike true h = absurd (h refl)
    unlike false h = refl

    differs : eq_by_cmp name_order q name ≡ false → name ≡ q → ⊥
    differs h n = let clash : true ≡ false = sym (own_name q) ∙ ap (eq_by_cmp name_order q) (sym n) ∙ h in cc

    by_test : (b : Bool) → eq_by_cmp name_order q name ≡ b → cond b None (get t q) ≡ Some fix → (bytes_eq name q ≡ false) × (get t q ≡ Some fix)
    by_test true h k = cc
    by_test false h k = (unlike (bytes_eq name q) (λ n. differs h ((bytes_decides name q).0 n)), k)

-- a row after one is put is that one, or was there
data NewRow (name q : List ℕ) (fix given : Fix) (old : Option Fix) : Type 0 where
  is_given : q ≡ name → fix ≡ given → NewRow name q fix given old
  was_there : old ≡ Some fix → NewRow name q fix given old

new_row : (t : Table) (name q : List ℕ) (given fix : Fix) → get (insert t name given) q ≡ Some fix → NewRow name q fix given (get t q)
new_row t name q given fix e = by_test (eq_by_cmp name_order q name) refl (sym (get-insert nat_list_cmp_total t name given q) ∙ e)
  where
    by_test : (b : Bool) → eq_by_cmp name_order q name ≡ b → cond b (Some given) (get t q) ≡ Some fix → NewRow name q fix given (get t q)
    by_test true h k = is_given (same_name q name h) (sym (some_inj k))
    by_test false h k = was_there k

-- entries
pub newest_below : (es : List Entry) (x : List ℕ) (c : ℕ) → number_of es x ≡ Some c → c < length es
newest_below [] x c e = cc
newest_below (f ∷ es) x c e = by_test (bytes_eq f.name x) e (newest_below es x c)
  where
    by_test : (b : Bool) → cond b (Some (length es)) (number_of es x) ≡ Some c → (number_of es x ≡ Some c → c < length es) → c < suc (length es)
    by_test true q next = let z : length es ≡ c = some_inj q in omega (arith, z)
    by_test false q next = let l = next q in omega (arith, l)

-- what holds of each entry, and of one more
pub each_entry : (P : Entry → Type 0) (e : Entry) (es : List Entry) → P e → ((c : ℕ) (f : Entry) → entry es c ≡ Some f → P f) → (c : ℕ) (f : Entry) → entry (e ∷ es) c ≡ Some f → P f
each_entry P e es p h c f q = by_test (same_number c (length es)) q
  where
    by_test : (b : Bool) → cond b (Some e) (entry es c) ≡ Some f → P f
    by_test true k = subst P (some_inj k) p
    by_test false k = h c f k

older_entry : (e : Entry) (es : List Entry) (c : ℕ) (f : Entry) → c < length es → entry (e ∷ es) c ≡ Some f → entry es c ≡ Some f
older_entry e es c f l q = by_test (same_number c (length es)) refl q
  where
    by_test : (b : Bool) → same_number c (length es) ≡ b → cond b (Some e) (entry es c) ≡ Some f → entry es c ≡ Some f
    by_test true h k = let i = number_is c (length es) h in absurd (omega (arith, l, i))
    by_test false h k = k

-- one entry more
rows_kept : (v : View) (e : Entry) → HasGoodRows (scene_of v) → HasGoodRows (scene_of (with_entry v e))
rows_kept v e h x fix c f r n q =
    let left = left_row v.fixities e.name x fix r in
    let old : number_of v.signature x ≡ Some c = sym (cond-false (bytes_eq e.name x) (Some (length v.signature)) (number_of v.signature x) left.0) ∙ n in
    h x fix c f left.1 old (older_entry e v.signature c f (newest_below v.signature x c old) q)

one_more : (v : View) (e : Entry) → IsCanonicalEntry (signature_of v.signature) e → IsName e.name → AreGoodHints e.hints → IsViewInOrder v → IsViewInOrder (with_entry v e)
one_more v e stands n g o = record {
  canonical = (o.canonical, stands);
  names = each_entry (λ f. IsName f.name) e v.signature n o.names;
  hints = each_entry (λ f. AreGoodHints f.hints) e v.signature g o.hints;
  preferences = o.preferences;
  rows = rows_kept v e o.rows;
}

-- the hints of a reconstruction are free variables, and binders that are written
good_head : (h : Option (List ℕ)) (hs : List (Option (List ℕ))) → AreGoodHints (h ∷ hs) → (y : List ℕ) → h ≡ Some y → IsName y
good_head h hs g y e = g zero y (ap Some e)

good_rest : (h : Option (List ℕ)) (hs : List (Option (List ℕ))) → AreGoodHints (h ∷ hs) → AreGoodHints hs
good_rest h hs g k y e = g (suc k) y e

good_append : (hs ks : List (Option (List ℕ))) → AreGoodHints hs → AreGoodHints ks → AreGoodHints (hs ++ ks)
good_append [] ks g k = k
good_append (h ∷ hs) ks g k = hints_more h (hs ++ ks) (good_head h hs g) (good_append hs ks (good_rest h hs g) k)

good_fitted : (n : ℕ) (hs : List (Option (List ℕ))) → AreGoodHints hs → AreGoodHints (fitted n hs)
good_fitted zero hs g = λ k y e. cc
good_fitted (suc n) [] g = hints_more None (fitted n []) (λ y e. cc) (good_fitted n [] g)
good_fitted (suc n) (h ∷ hs) g = hints_more h (fitted n hs) (good_head h hs g) (good_fitted n hs (good_rest h hs g))

good_rows : (rows : Rows) (hs : List (Option (List ℕ))) → ((x : List ℕ) → HasRow x rows → IsName x) → AreOfRows rows hs → AreGoodHints hs
good_rows rows [] n h = λ k y e. cc
good_rows rows (None ∷ hs) n h = hints_more None hs (λ y e. cc) (good_rows rows hs n h.1)
good_rows rows (Some x ∷ hs) n h = hints_more (Some x) hs (λ y e. subst IsName (some_inj e) (n x h.0)) (good_rows rows hs n h.1)

pub reconstructed_good : (es : List Entry) (d : Declaration) (e : Entry) → ((x : List ℕ) → IsFreeVariable es x d → IsName x) → AreGoodHints (written_hints d) → IsReconstructed es d e → AreGoodHints e.hints
reconstructed_good es d e f g k =
    subst AreGoodHints (sym k.is_entry.hints)
    (good_append k.quantifier_hints (fitted (body_quantifiers k.inner) (written_hints d))
    (good_rows k.rows k.quantifier_hints (λ x r. f x (k.is_written.skeletons.row_is_free x r)) (hints_of_rows es k.rows k.written k.quantifiers k.quantifier_hints k.shown k.inner k.completed))
    (good_fitted (body_quantifiers k.inner) (written_hints d) g))

entered_keeps : (v w : View) (words : List Lexeme) (d : Declaration) (report : Reported) → AreSpelled words → Declares v.fixities words d → IsName (declared_name d) → AreGoodHints (written_hints d) → is_unnamed d ≡ false
    → Enters v d report w → IsViewInOrder v → IsViewInOrder w
entered_keeps v w words d report all r n g named h o =
    let k = h.reconstructs in
    let kept : w ≡ with_entry v h.entry = h.keeps ∙ cond-false (is_unnamed d) v (with_entry v h.entry) named in
    subst IsViewInOrder (sym kept)
    (one_more v h.entry h.stands (subst IsName (sym k.is_entry.name) n) (reconstructed_good v.signature d h.entry (λ x f. free_are_named v.fixities words d v.signature x all r f) g k) o)

-- the hints of a definition by an answer are names of the query's variables, and binders that are written
rows_front : (rows : Rows) (hs ks : List (Option (List ℕ))) → AreOfRows rows (hs ++ ks) → AreOfRows rows hs × AreOfRows rows ks
rows_front rows [] ks h = (tt, h)
rows_front rows (x ∷ hs) ks h = let q = rows_front rows hs ks h.1 in ((h.0, q.0), q.1)

rows_reversed : (rows : Rows) (hs : List (Option (List ℕ))) → AreOfRows rows (reverse hs) → AreOfRows rows hs
rows_reversed rows [] h = tt
rows_reversed rows (x ∷ hs) h = let q = rows_front rows (reverse hs) (x ∷ []) (subst (AreOfRows rows) (reverse-append (x ∷ []) hs) h) in (q.1.0, rows_reversed rows hs q.0)

joined_slice : (hs : List (Option (List ℕ))) (i : ℕ) (y : List ℕ) → joined (slice_get hs i) ≡ Some y → slice_get hs i ≡ Some (Some y)
joined_slice [] i y e = cc
joined_slice (x ∷ hs) zero y e = ap Some e
joined_slice (x ∷ hs) (suc i) y e = joined_slice hs i y e

named_good : (g : Goal) (a : Answer) (is : List ℕ) (f : ℕ) (h : Option (List ℕ)) → AreGoodHints g.names → NamedBy g a is f h → (y : List ℕ) → h ≡ Some y → IsName y
named_good g a [] f h good n y e = let clash : None ≡ Some y = sym n ∙ e in absurd cc
named_good g a (i ∷ is) f h good (inl n) y e = good i y (joined_slice g.names i y (sym n.1 ∙ e))
named_good g a (i ∷ is) f h good (inr n) y e = named_good g a is f h good n.1 y e

hints_good : (g : Goal) (a : Answer) (fs : List ℕ) (hs : List (Option (List ℕ))) → AreGoodHints g.names → AreHints g a fs hs → AreGoodHints hs
hints_good g a [] [] good h = λ k y e. cc
hints_good g a [] (x ∷ hs) good h = absurd h
hints_good g a (f ∷ fs) [] good h = absurd h
hints_good g a (f ∷ fs) (x ∷ hs) good h = hints_more x hs (named_good g a g.shown f x good h.0) (hints_good g a fs hs good h.1)

goal_good : (es : List Entry) (q : Query) (g : Goal) → ((x : List ℕ) → IsFreeIn es x [] q.goal → IsName x) → IsGoalOf es q g → AreGoodHints g.names
goal_good es q g free k = good_rows k.rows g.names (λ x r. free x (k.is_written.skeletons.row_is_free x r)) (rows_reversed k.rows g.names (hints_of_rows es k.rows k.written g.variables (reverse g.names) g.shown (declare_constant g.goal) k.completed))

solved_keeps : (v w : View) (words : List Lexeme) (c : List ℕ) (at : Place) (A : Term) (report : Reported) → AreSpelled words → Searches v.fixities words (solve c at A) → KeepsAnswer v c A report w → IsViewInOrder v → IsViewInOrder w
solved_keeps v w words c at A report all r h o =
    let (n, b, free) = solved_named v.fixities words c at A all r in
    let k = h.found in
    let s = k.solution in
    let good : AreGoodHints k.goal.names = goal_good v.signature (solve_query c A) k.goal (free v.signature) k.runs.asked.reconstructs in
    subst IsViewInOrder (sym h.keeps)
    (one_more v h.entry k.stands (subst IsName (sym s.name) n)
    (subst AreGoodHints (sym s.hints_are) (good_append s.named (fitted (quantifiers s.of_type) (hints A)) (hints_good k.goal k.answer s.order s.named good s.are_hints) (good_fitted (quantifiers s.of_type) (hints A) b))) o)

-- rows that are given
same_count : (fix : Fix) → shown.operand_count fix ≡ operand_count fix
same_count (Infix a n) = refl
same_count (Prefix n) = refl
same_count (Postfix n) = refl

both : (a b : Bool) → a && b ≡ true → (a ≡ true) × (b ≡ true)
both true b e = (refl, e)
both false b e = cc

le_is : (n m : ℕ) → nat_le n m ≡ true → n ≤ m
le_is n m h = grind (arith, nat_tests)

enough : (fix : Fix) (e : Entry) → takes (operand_count fix) (Some e) ≡ true → shown.operand_count fix ≤ body_quantifiers e.body - e.implicit
enough fix e h = let l = le_is (operand_count fix) (explicit_count e) h in let s = same_count fix in omega (arith, l, s)

-- rows that are right for these entries
abbrev AreRight : List Entry → Table → Type 0
AreRight es t = (x : List ℕ) (fix : Fix) (c : ℕ) (e : Entry) → get t x ≡ Some fix → number_of es x ≡ Some c → entry es c ≡ Some e → shown.operand_count fix ≤ body_quantifiers e.body - e.implicit

row_right : (es : List Entry) (t : Table) (fix : Fix) (name : List ℕ) → takes (operand_count fix) (newest es name) ≡ true → AreRight es t → AreRight es (insert t name fix)
row_right es t fix name h right x f c e r n q = by_row (new_row t name x fix f r)
  where
    by_row : NewRow name x f fix (get t x) → shown.operand_count f ≤ body_quantifiers e.body - e.implicit
    by_row (was_there k) = right x f c e k n q
    by_row (is_given i g) =
        let found : newest es name ≡ Some e = ap (newest es) (sym i) ∙ ap (entry_by es) n ∙ q in
        subst (λ k. shown.operand_count k ≤ body_quantifiers e.body - e.implicit) (sym g) (enough fix e (subst (λ o. takes (operand_count fix) o ≡ true) found h))

rows_right : (es : List Entry) (t : Table) (fix : Fix) (names : List ExtName) → all_take es (operand_count fix) names ≡ true → AreRight es t → AreRight es (with_rows t fix names)
rows_right es t fix [] h right = right
rows_right es t fix (x ∷ xs) h right =
    let p = both (takes (operand_count fix) (newest es x.name)) (all_take es (operand_count fix) xs) h in
    rows_right es (insert t x.name fix) fix xs p.1 (row_right es t fix x.name p.0 right)

given_keeps : (v w : View) (fix : Fix) (names : List ExtName) (report : Reported) → GivesRows v fix names report w → IsViewInOrder v → IsViewInOrder w
given_keeps v w fix names report h o =
    subst IsViewInOrder (sym h.keeps) (record {
      canonical = o.canonical;
      names = o.names;
      hints = o.hints;
      preferences = o.preferences;
      rows = rows_right v.signature v.fixities fix names h.all_fit o.rows;
    })

-- preferences that are given
preference_kept : (m : FinMap nat_cmp Preferences) (family : ℕ) (new : Preferences) → PreferNames new → ((a : ℕ) (row : Preferences) → get m a ≡ Some row → PreferNames row)
    → (a : ℕ) (row : Preferences) → get (insert m family new) a ≡ Some row → PreferNames row
preference_kept m family new n h a row e = by_test (eq_by_cmp nat_cmp a family) (sym (get-insert nat_cmp_total m family new a) ∙ e)
  where
    by_test : (b : Bool) → cond b (Some new) (get m a) ≡ Some row → PreferNames row
    by_test true k = subst PreferNames (some_inj k) n
    by_test false k = h a row k

preferred_keeps : (v w : View) (a : ExtName) (x : List ℕ) (y : Option (List ℕ)) (report : Reported) → PreferNames (x, y) → Prefers v a x y report w → IsViewInOrder v → IsViewInOrder w
preferred_keeps v w a x y report n h o =
    subst IsViewInOrder (sym h.keeps) (record {
      canonical = o.canonical;
      names = o.names;
      hints = o.hints;
      preferences = preference_kept v.names h.family (x, y) n o.preferences;
      rows = o.rows;
    })

pub same_parts : (v u : View) → u.signature ≡ v.signature → u.fixities ≡ v.fixities → u.names ≡ v.names → IsViewInOrder v → IsViewInOrder u
same_parts v u p q r o = record {
  canonical = subst IsCanonicalSignature (sym p) o.canonical;
  names = subst (λ es. (c : ℕ) (e : Entry) → entry es c ≡ Some e → IsName e.name) (sym p) o.names;
  hints = subst (λ es. (c : ℕ) (e : Entry) → entry es c ≡ Some e → AreGoodHints e.hints) (sym p) o.hints;
  preferences = subst (λ m. (a : ℕ) (row : Preferences) → get m a ≡ Some row → PreferNames row) (sym r) o.preferences;
  rows = subst (λ t. AreRight u.signature t) (sym q) (subst (λ es. AreRight es v.fixities) (sym p) o.rows);
}

-- a check leaves entries, operators and preferred names alone
pub checked_parts : (v w : View) (c : Check) (report : Reported) → Checks v c report w → (w.signature ≡ v.signature) × (w.fixities ≡ v.fixities) × (w.names ≡ v.names)
checked_parts v w (mode_short a ms) report h = (ap (λ (u : View). u.signature) h.keeps, ap (λ (u : View). u.fixities) h.keeps, ap (λ (u : View). u.names) h.keeps)
checked_parts v w (mode_full ms a n d) report h = (ap (λ (u : View). u.signature) h.keeps, ap (λ (u : View). u.fixities) h.keeps, ap (λ (u : View). u.names) h.keeps)
checked_parts v w (terminates O ps) report h = (ap (λ (u : View). u.signature) h.keeps, ap (λ (u : View). u.fixities) h.keeps, ap (λ (u : View). u.names) h.keeps)
checked_parts v w (block l n d) report h = (ap (λ (u : View). u.signature) h.keeps, ap (λ (u : View). u.fixities) h.keeps, ap (λ (u : View). u.names) h.keeps)
checked_parts v w (worlds ls ps) report h = (ap (λ (u : View). u.signature) h.keeps, ap (λ (u : View). u.fixities) h.keeps, ap (λ (u : View). u.names) h.keeps)

pub making_keeps : MakingKeepsOrder
making_keeps v w words report all m o = by_read m.read m.reads m.does
  where
    by_declaration : (d : Declaration) → Declares v.fixities words d → Does v d report w → IsViewInOrder w
    by_declaration (declare c at U) r h =
        let n = declared_named v.fixities words c at U all r in entered_keeps v w words (declare c at U) report all r n.0 n.1 refl h o
    by_declaration (define None A M b) r h = subst IsViewInOrder (sym h.keeps) o
    by_declaration (define (Some c) A M b) r h =
        let n = defined_named v.fixities words (Some c) A M b all r in entered_keeps v w words (define (Some c) A M b) report all r (n.0 c refl) n.1 refl h o
    by_declaration (prefer a x y) r h = preferred_keeps v w a x y report (preferred_names v.fixities words a x y all r) h o
    by_declaration (give fix names) r h = given_keeps v w fix names report h o

    by_read : (x : Read) → Reads v words x → ReadDoes v x report w → IsViewInOrder w
    by_read (plain d) r h = by_declaration d r.reads h
    by_read (check c) r h = let p = checked_parts v w c report h in same_parts v w p.0 p.1 p.2 o
    by_read (searching (query e t q)) r h = subst IsViewInOrder (sym h.keeps) o
    by_read (searching (solve c at A)) r h = solved_keeps v w words c at A report all r.reads h o

pub written_spelled : {text : List ℕ} {from upto : ℕ} {words : List Lexeme} {end : _} → IsWritten text from upto words end → AreSpelled words
written_spelled {text = text} {from = from} {upto = upto} w = subst AreSpelled (sym w.spelled) (tokens_spelled text from upto w.tokens w.through)

pub accepting_keeps : AcceptingKeepsOrder
accepting_keeps v w text report a o = making_keeps v w a.words report (written_spelled a.written.written) a.makes o

pub accepting_from_keeps : AcceptingFromKeepsOrder
accepting_from_keeps v w text report from upto a o = making_keeps v w a.words report (written_spelled a.written) a.makes o

pub new_in_order : NewIsInOrder
new_in_order = (
  record { canonical = tt; names = λ c e q. cc; hints = λ c e q. cc; preferences = λ a row q. none_there a row q; rows = λ x fix c e r n q. cc },
  λ v. record { canonical = tt; names = λ c e q. cc; hints = λ c e q. cc; preferences = λ a row q. none_there a row q; rows = λ x fix c e r n q. cc },
)
  where
    none_there : (a : ℕ) (row : Preferences) → get {R = nat_cmp} empty a ≡ Some row → PreferNames row
    none_there a row q = let clash : None ≡ Some row = sym (get-empty nat_cmp a) ∙ q in cc

pub setting_keeps : SettingKeepsOrder
setting_keeps v n b o = (same_parts v (with_chatter v n) refl refl refl o, same_parts v (with_implicit v b) refl refl refl o, same_parts v (with_steps v n) refl refl refl o)
