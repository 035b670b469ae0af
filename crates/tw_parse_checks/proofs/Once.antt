-- Tokens are one check at most.
use Rattle.std.proofs.Common.{◌≡◌, ℕ, List, ◌∷◌, ◌++◌, map, length, Bool, true, None, Some, refl, sym, ap, subst, ◌∙◌}
use Rattle.tw_lexer.specs.declared.place.Place.{Place}
use Rattle.tw_parse.specs.Failing.{is_item}
use Rattle.tw_parse.specs.Keywords.{is_identifier}
use Rattle.tw_parse.specs.Outlines.{Table, Outline, Sequence}
use Rattle.tw_parse.specs.Readings.{FirstFaultIn}
use Rattle.tw_parse.specs.Syntax.{Term, declare}
use Rattle.tw_parse.specs.Words.{Lexeme}
use Rattle.tw_parse.specs.declared.decl.ExtName.{ExtName}
use Rattle.tw_parse.specs.declared.words.Word.{Word}
use Rattle.tw_parse.specs.declared.words.Word.TheVariants.{LParen, LBrace}
use Rattle.tw_parse.proofs.OneOutline.{SameSequence, sequence_once}
use Rattle.tw_parse_checks.specs.Checks.{Check, mode_full, block, Order}
use Rattle.tw_parse_checks.specs.Faults.{types_of}
use Rattle.tw_parse_checks.specs.Laws.{CheckIsUnique}
use Rattle.tw_parse_checks.specs.Marks.{lone_mark_by, named_mark_by}
use Rattle.tw_parse_checks.specs.Meanings.{mark_in, binder_in, MeansCheck, means_short, means_full, means_block, means_worlds, means_terminates}
use Rattle.tw_parse_checks.specs.Parts.{Stuck, HasNoHead}
use Rattle.tw_parse_checks.specs.Shapes.{Row, no_more, one_more, TakesMark, a_mark, TakesName, Quantifier, Head, a_head, an_opening, TakesQuantifier, a_quantifier, Binder, TakesBinder, TakesSome, TakesCall, Family, bare, in_parens, Closing, by_dot, by_paren, Draft, short, full, blocked, in_worlds, ordered, Behind, is_short, is_full, is_block, is_worlds, is_terminates, Shapes, shapes}
use Rattle.tw_parse_checks.specs.declared.check.CheckForm.{CheckForm}
use Rattle.tw_parse_checks.specs.declared.check.ExtMark.{ExtMark}
use Rattle.tw_parse_checks.proofs.Openings.{opening_once, binders_once, closing_binder, label_once, some_once}
use Rattle.tw_parse_checks.proofs.Patterns.{one_family, calls_once, closing_call, labels_once, order_once}
use Rattle.tw_parse_checks.proofs.Domains.{quantifiers_read, binders_read, some_read, append_read, binds_once, no_type_fault}
use Rattle.tw_parse_checks.proofs.Rows.{IsOnce, row_once, marks_once, names_once, stuck_mark, stuck_name}

-- Quantified variables

pub record SameHead (marks others : ExtMark) (x y : ExtName) (rest left : List Lexeme) : Type 0 where
  pub same_marks : marks ≡ others
  pub same_names : x ≡ y
  pub rests : rest ≡ left

pub head_once : {tokens rest left : List Lexeme} {m n : ExtMark} {x y : ExtName} → Head tokens m x rest → Head tokens n y left → SameHead m n x y rest left
head_once {m = m} {n = n} (a_head e o) (a_head i p) =
    let heads = opening_once o p in
    record { same_marks = let same : Some m ≡ Some n = sym e ∙ i in let is : m ≡ n = cc in is; same_names = heads.0; rests = heads.1 }

same_quantifier : (m n : ExtMark) (x y : ExtName) (U V : Outline) → m ≡ n → x ≡ y → U ≡ V → ◌≡◌ {A = Quantifier} (record { mark = m; variable = x; type = U }) (record { mark = n; variable = y; type = V })
same_quantifier m n x y U V e f g =
    ap (λ (k : ExtMark). record { mark = k; variable = x; type = U }) e ∙ ap (λ (z : ExtName). record { mark = n; variable = z; type = U }) f ∙ ap (λ (W : Outline). record { mark = n; variable = y; type = W }) g

pub quantifiers_once : (table : Table) → IsOnce (TakesQuantifier table)
quantifiers_once table tokens rest others p q (a_quantifier {type = type} {closer = c} {mark = m} {x = x} {U = U} h s e) (a_quantifier {type = other} {closer = d} {mark = n} {x = y} {U = V} i t f) =
    let heads = head_once h i in
    let same : SameSequence U V (c ∷ rest) (d ∷ others) =
    sequence_once table s V (d ∷ others) (subst (λ (ts : List Lexeme). Sequence table ts V (d ∷ others)) (sym heads.rests) t) (ap is_item e) (ap is_item f) in
    let rests : c ∷ rest ≡ d ∷ others = same.rests in
    (same_quantifier m n x y U V heads.same_marks heads.same_names same.outlines, let is : rest ≡ others = cc in is)

pub stuck_head : (table : Table) (tokens : List Lexeme) → HasNoHead tokens → Stuck (TakesQuantifier table) tokens
stuck_head table tokens n q rest (a_quantifier {type = type} {mark = m} {x = x} h s e) = n m x type h

no_mark : (w : Word) (bytes : List ℕ) (mark : ExtMark) → w ≡ LParen → lone_mark_by w bytes ≡ Some mark → ⊥
no_mark w bytes mark e f = let clash : None ≡ Some mark = sym (ap (λ (v : Word). lone_mark_by v bytes) e) ∙ f in cc

-- a family in parentheses is no quantified variable
pub family_is_no_head : (tokens rest : List Lexeme) (a : ExtName) → Family true tokens a rest → HasNoHead tokens
family_is_no_head tokens rest a (in_parens {opener = o} e f) m x left (a_head g p) = no_mark o.word o.bytes m e g

-- what closes a check is neither a mark nor a name
pub closing_mark : (b : Bool) (tokens : List Lexeme) → Closing b tokens → Stuck TakesMark tokens
closing_mark b tokens (by_dot {dot = d} e) = stuck_mark tokens (ap (λ (w : Word). named_mark_by w d.bytes) e)
closing_mark b tokens (by_paren {closer = c} e f) = stuck_mark tokens (ap (λ (w : Word). named_mark_by w c.bytes) e)

pub closing_name : (b : Bool) (tokens : List Lexeme) → Closing b tokens → Stuck TakesName tokens
closing_name b tokens (by_dot e) = stuck_name tokens (ap is_identifier e)
closing_name b tokens (by_paren e f) = stuck_name tokens (ap is_identifier e)

-- Drafts

brace_is_no_mark : (w : Word) (bytes : List ℕ) (mark : ExtMark) → w ≡ LBrace → named_mark_by w bytes ≡ Some mark → ⊥
brace_is_no_mark w bytes mark e f = let clash : None ≡ Some mark = sym (ap (λ (v : Word). named_mark_by v bytes) e) ∙ f in cc

-- no mark stands behind a family where a quantified variable does
brace_stands : (opener : Lexeme) (tokens rest : List Lexeme) (marks : List ExtMark) (b : Bool) (x y : Lexeme) → opener.word ≡ LBrace → Row TakesMark (opener ∷ x ∷ y ∷ tokens) marks rest → Closing b rest → ⊥
brace_stands opener tokens _ _ b x y e no_more c = elim c [ ]
brace_stands opener tokens rest marks b x y e (one_more {one = m} (a_mark f) w) c = brace_is_no_mark opener.word opener.bytes m e f

pub short_has_no_head : (tokens behind rest : List Lexeme) (a : ExtName) (marks : List ExtMark) (b : Bool) → Family b tokens a behind → Row TakesMark behind marks rest → Closing b rest → HasNoHead tokens
short_has_no_head tokens behind rest a marks b (bare e) w c m x left (a_head f (an_opening {opener = o} {x = y} {colon = l} {rest = ts} g h i)) = brace_stands o ts rest marks b y l g w c
short_has_no_head tokens behind rest a marks b (in_parens {opener = o} e f) w c m x left (a_head g p) = no_mark o.word o.bytes m e g

pub full_has_head : (table : Table) (tokens next : List Lexeme) (q : Quantifier) (qs : List Quantifier) → Row (TakesQuantifier table) tokens (q ∷ qs) next → HasNoHead tokens → ⊥
full_has_head table tokens next q qs (one_more {next = after} t w) n = stuck_head table tokens n q after t

same_full : (qs ps : List Quantifier) (a b : ExtName) (xs ys : List ExtName) → qs ≡ ps → a ≡ b → xs ≡ ys → full qs a xs ≡ full ps b ys
same_full qs ps a b xs ys e f g = ap (λ (rs : List Quantifier). full rs a xs) e ∙ ap (λ (c : ExtName). full ps c xs) f ∙ ap (full ps b) g

same_blocked : (l m : ExtName) (ss rs bs ds : List Binder) → l ≡ m → ss ≡ rs → bs ≡ ds → blocked l ss bs ≡ blocked m rs ds
same_blocked l m ss rs bs ds e f g = ap (λ (k : ExtName). blocked k ss bs) e ∙ ap (λ (xs : List Binder). blocked m xs bs) f ∙ ap (blocked m rs) g

pub behind_once : (table : Table) (form : CheckForm) (tokens : List Lexeme) (D E : Draft) → Behind table form tokens D → Behind table form tokens E → D ≡ E
behind_once table form tokens D E (is_short {behind = us} {rest = r} {a = a} {marks = ms} {parens = b} f m c) (is_short {behind = vs} {rest = s} {a = d} {marks = ns} {parens = e} g n h) =
    let families = one_family f g in
    let rows = row_once TakesMark marks_once m (subst (λ (xs : List Lexeme). Row TakesMark xs ns s) (sym families.2) n) (closing_mark b r c) (closing_mark e s h) in
    ap (λ (x : ExtName). short x ms) families.1 ∙ ap (short d) rows.0
behind_once table form tokens D E (is_short {behind = us} {rest = r} {a = a} {marks = ms} {parens = b} f m c) (is_full {next = next} {q = q} {qs = qs} t g n h) =
    absurd (full_has_head table tokens next q qs t (short_has_no_head tokens us r a ms b f m c))
behind_once table form tokens D E (is_full {next = next} {q = q} {qs = qs} t g n h) (is_short {behind = us} {rest = r} {a = a} {marks = ms} {parens = b} f m c) =
    absurd (full_has_head table tokens next q qs t (short_has_no_head tokens us r a ms b f m c))
behind_once table form tokens D E (is_full {next = next} {behind = us} {rest = r} {q = q} {qs = qs} {a = a} {names = xs} t f m c) (is_full {next = after} {behind = vs} {rest = s} {q = p} {qs = ps} {a = d} {names = ys} u g n h) =
    let firsts = row_once (TakesQuantifier table) (quantifiers_once table) t u (stuck_head table next (family_is_no_head next us a f)) (stuck_head table after (family_is_no_head after vs d g)) in
    let families = one_family f (subst (λ (zs : List Lexeme). Family true zs d vs) (sym firsts.1) g) in
    let rows = row_once TakesName names_once m (subst (λ (zs : List Lexeme). Row TakesName zs ys s) (sym families.2) n) (closing_name true r c) (closing_name true s h) in
    same_full (q ∷ qs) (p ∷ ps) a d xs ys firsts.0 families.1 rows.0
behind_once table form tokens D E (is_block {word = w} {next = next} {behind = us} {rest = r} {l = l} {ss = ss} {bs = bs} k s b t c) (is_block {word = v} {next = after} {behind = vs} {rest = o} {l = m} {ss = rs} {bs = ds} j q d u h) =
    let labels = label_once k j in
    let somes = some_once table s b (subst (λ (ts : List Lexeme). TakesSome table ts rs (v ∷ vs)) (sym labels.1) q) d in
    let tails : us ≡ vs = cc in
    let rows = row_once (TakesBinder table) (binders_once table) t (subst (λ (ts : List Lexeme). Row (TakesBinder table) ts ds o) (sym tails) u) (closing_binder table r c).0 (closing_binder table o h).0 in
    same_blocked l m ss rs bs ds labels.0 somes.0 rows.0
behind_once table form tokens D E (is_worlds {next = next} {rest = r} {ls = ls} {c = c} {cs = cs} l t e) (is_worlds {next = after} {rest = s} {ls = ms} {c = d} {cs = ds} m u f) =
    let labels = labels_once l m in
    let rows = row_once TakesCall calls_once t (subst (λ (ts : List Lexeme). Row TakesCall ts (d ∷ ds) s) (sym labels.1) u) (closing_call r e) (closing_call s f) in
    ap (λ (xs : List ExtName). in_worlds xs (c ∷ cs)) labels.0 ∙ ap (in_worlds ms) rows.0
behind_once table form tokens D E (is_terminates {next = next} {rest = r} {o = o} {c = c} {cs = cs} l t e) (is_terminates {next = after} {rest = s} {o = p} {c = d} {cs = ds} m u f) =
    let orders = order_once tokens next after o p l m in
    let rows = row_once TakesCall calls_once t (subst (λ (ts : List Lexeme). Row TakesCall ts (d ∷ ds) s) (sym orders.1) u) (closing_call r e) (closing_call s f) in
    ap (λ (q : Order). ordered q (c ∷ cs)) orders.0 ∙ ap (ordered p) rows.0

pub one_draft : (table : Table) (tokens : List Lexeme) (D E : Draft) → Shapes table tokens D → Shapes table tokens E → D ≡ E
one_draft table tokens D E (shapes {tokens = ts} {form = f} w e b) (shapes {form = g} v h d) =
    let forms : Some f ≡ Some g = sym e ∙ h in
    let same : f ≡ g = cc in
    behind_once table f ts D E b (subst (λ (k : CheckForm). Behind table k ts E) (sym same) d)

-- Meanings

check_once : (table : Table) (at : Place) (form : CheckForm) (tokens : List Lexeme) (D : Draft) (c d : Check) → Behind table form tokens D → MeansCheck D c → MeansCheck D d → d ≡ c
check_once table at form tokens D c d s means_short means_short = refl
check_once table at form tokens D c d (is_full t f m h) (means_full {qs = qs} {a = a} {names = ys} r b) (means_full u v) =
    ap (λ (A : Term). mode_full (map mark_in qs) a (length ys) (declare a.name a.at A)) (binds_once table at (map binder_in qs) (quantifiers_read table t) v b)
check_once table at form tokens D c d (is_block k s w t h) (means_block {l = l} {ss = ss} {bs = bs} b) (means_block v) =
    ap (λ (A : Term). block l (length ss) (declare l.name l.at A)) (binds_once table at (ss ++ bs) (append_read table ss bs (some_read table s) (binders_read table t)) v b)
check_once table at form tokens D c d s (means_worlds k) (means_worlds m) = refl
check_once table at form tokens D c d s (means_terminates k f) (means_terminates m g) = refl

pub no_draft_fault : (table : Table) (at : Place) (form : CheckForm) (tokens : List Lexeme) (D : Draft) (c : Check) (place : Place) → Behind table form tokens D → MeansCheck D c → FirstFaultIn (types_of D) place → ⊥
no_draft_fault table at form tokens D c place s means_short f = elim f [ ]
no_draft_fault table at form tokens D c place (is_full t g m h) (means_full {qs = qs} r b) f = no_type_fault table at place (map binder_in qs) (quantifiers_read table t) b f
no_draft_fault table at form tokens D c place (is_block k s w t h) (means_block {ss = ss} {bs = bs} b) f = no_type_fault table at place (ss ++ bs) (append_read table ss bs (some_read table s) (binders_read table t)) b f
no_draft_fault table at form tokens D c place s (means_worlds k) f = elim f [ ]
no_draft_fault table at form tokens D c place s (means_terminates k g) f = elim f [ ]

pub one_check : CheckIsUnique
one_check table tokens c r = (
  λ d q. shaped_once table tokens r.0 c d r.1 r.2 (subst (λ (D : Draft). MeansCheck D d) (one_draft table tokens q.0 r.0 q.1 r.1) q.2),
  λ D place s f. shaped_fault table tokens r.0 c place r.1 r.2 (subst (λ (E : Draft). FirstFaultIn (types_of E) place) (one_draft table tokens D r.0 s r.1) f),
)
  where
    shaped_once : (table : Table) (tokens : List Lexeme) (D : Draft) (c d : Check) → Shapes table tokens D → MeansCheck D c → MeansCheck D d → d ≡ c
    shaped_once table tokens D c d (shapes {keyword = k} {tokens = ts} {form = f} w e b) m n = check_once table k.at f ts D c d b m n

    shaped_fault : (table : Table) (tokens : List Lexeme) (D : Draft) (c : Check) (place : Place) → Shapes table tokens D → MeansCheck D c → FirstFaultIn (types_of D) place → ⊥
    shaped_fault table tokens D c place (shapes {keyword = k} {tokens = ts} {form = f} w e b) m g = no_draft_fault table k.at f ts D c place b m g
