-- The lines of a session are loaded one after the other.
use Rattle.std.proofs.Common.{◌≡◌, ℕ, zero, suc, ◌+◌, ◌<◌, List, [], ◌∷◌, ◌++◌, drop, length, Bool, true, false, cond, Some, None, refl, sym, ap, ap₂, ◌∙◌, subst, arith, append_assoc, append-nil, length-append}
use Rattle.std.specs.Prelude.{◌^◌, codes}
use Rattle.std.specs.Cmp.Lexicographic.{nat_list_cmp_total}
use Rattle.std.specs.FinMap.{get, len, remove, get-remove}
use Rattle.std.specs.Ordering.{eq_by_cmp}
use Rattle.std.proofs.Math.Seq.{drop-append_seam}
use Rattle.lf.specs.Entries.{Entry, entry, signature_of, IsCanonicalEntry, IsCanonicalSignature}
use Rattle.lf.specs.Variables.{same_number}
use Rattle.lf.proofs.Checker.{number_is}
use Rattle.tw_fixity.specs.Rows.{name_order}
use Rattle.tw_lexer.specs.Places.{place_of}
use Rattle.tw_lexer.specs.Tokens.{token, between, first_token}
use Rattle.tw_lexer.specs.declared.token.TokenKind.TheVariants.{End}
use Rattle.tw_lexer.proofs.Finds.{seek-end}
use Rattle.tw_parse.specs.Outlines.{Table}
use Rattle.tw_parse.specs.Words.{lexemes}
use Rattle.tw_print.specs.Names.{Scene}
use Rattle.tw_print.specs.Pieces.{render}
use Rattle.tw_print.specs.Shown.{declaration_line, keyword, line_in, nesting_limit}
use Rattle.tw_decl.specs.View.{View, scene_of, with_entry}
use Rattle.tw_decl.specs.Declaration.{entry_report, AcceptsFrom, HasNoMore}
use Rattle.tw_server.specs.Loading.{Declares, no_more, one_more, first_lines}
use Rattle.tw_server.specs.Replies.{opening, closing}
use Rattle.law_reading_back.specs.Names.{AreGoodHints, EachIs, HasRoom, HasNoImplicit, IsName, IsPlainByte}
use Rattle.law_reading_back.proofs.Lexing.{drop_on, line_feed_passed, passed}
use Rattle.law_session_order.specs.Laws.{SignatureReadsBack}
use Rattle.law_session_order.specs.Order.{AreAlike, HasNoRows, HasPlainLine, IsFileWithinLimits, IsViewInOrder, LineReadsBack}
use Rattle.law_session_order.proofs.Accepting.{IsMadeAgain, read_made}
use Rattle.law_session_order.proofs.Alike.{line_same, same_length, same_signature}
use Rattle.law_session_order.proofs.Keeping.{accepting_from_keeps, each_entry}
use Rattle.law_session_order.proofs.Reading.{among, canonical_rest, line_back, older_stays}

-- each entry of a list
abbrev AllEntries : (Entry → Type 0) → List Entry → Type 0
AllEntries P [] = Unit {0}
AllEntries P (e ∷ es) = P e × AllEntries P es

found_below : (es : List Entry) (c : ℕ) (f : Entry) → entry es c ≡ Some f → c < length es
found_below [] c f q = cc
found_below (e ∷ es) c f q = by_test (same_number c (length es)) refl q (found_below es c f)
  where
    by_test : (b : Bool) → same_number c (length es) ≡ b → cond b (Some e) (entry es c) ≡ Some f → (entry es c ≡ Some f → c < length es) → c < suc (length es)
    by_test true h k next = let i = number_is c (length es) h in omega (arith, i)
    by_test false h k next = let l = next k in omega (arith, l)

all_of : (P : Entry → Type 0) (es : List Entry) → ((c : ℕ) (f : Entry) → entry es c ≡ Some f → P f) → AllEntries P es
all_of P [] h = tt
all_of P (e ∷ es) h = (h (length es) e (among [] es e).is, all_of P es (λ c f q. h c f (older_stays e es c f (found_below es c f q) q)))

all_at : (P : Entry → Type 0) (es : List Entry) → AllEntries P es → (c : ℕ) (f : Entry) → entry es c ≡ Some f → P f
all_at P [] h c f q = cc
all_at P (e ∷ es) (p, h) c f q = each_entry P e es p (all_at P es h) c f q

replaced : (P : Entry → Type 0) (newer : List Entry) (e : Entry) (older fs : List Entry) → AllEntries P (newer ++ e ∷ older) → AllEntries P fs → AllEntries P (newer ++ e ∷ fs)
replaced P [] e older fs (p, h) k = (p, k)
replaced P (g ∷ newer) e older fs (p, h) k = (p, replaced P newer e older fs h k)

middle : (P : Entry → Type 0) (newer : List Entry) (e : Entry) (older : List Entry) → AllEntries P (newer ++ e ∷ older) → P e
middle P [] e older (p, h) = p
middle P (g ∷ newer) e older (p, h) = middle P newer e older h

alike_append : (newer es fs : List Entry) → AreAlike es fs → AreAlike (newer ++ es) (newer ++ fs)
alike_append [] es fs a = a
alike_append (g ∷ newer) es fs a = (record { name = refl; body = refl; implicit = refl }, alike_append newer es fs a)

canonical_replaced : (newer es fs : List Entry) → AreAlike es fs → IsCanonicalSignature (newer ++ es) → IsCanonicalSignature fs → IsCanonicalSignature (newer ++ fs)
canonical_replaced [] es fs a h k = k
canonical_replaced (g ∷ newer) es fs a (h, c) k =
    (canonical_replaced newer es fs a h k, subst (λ Σ. IsCanonicalEntry Σ g) (same_signature (newer ++ es) (newer ++ fs) (alike_append newer es fs a)) c)

-- the lines of entries, the oldest first
abbrev all_lines : Scene → List Entry → List ℕ
all_lines s [] = []
all_lines s (e ∷ es) = all_lines s es ++ (declaration_line s e ++ codes "\n")

lines_append : (s : Scene) (newer es : List Entry) → all_lines s (newer ++ es) ≡ all_lines s es ++ all_lines s newer
lines_append s [] es = sym (append-nil (all_lines s es))
lines_append s (f ∷ newer) es = ap (λ x. x ++ (declaration_line s f ++ codes "\n")) (lines_append s newer es) ∙ append_assoc (all_lines s es) (all_lines s newer) (declaration_line s f ++ codes "\n")

lines_are : (v : View) (newer older : List Entry) → v.signature ≡ newer ++ older → first_lines v (length older) ≡ all_lines (scene_of v) older
lines_are v newer [] split = refl
lines_are v newer (e ∷ older) split =
    let h = lines_are v (newer ++ e ∷ []) older (split ∙ sym (append_assoc newer (e ∷ []) older)) in
    let found : entry v.signature (length older) ≡ Some e = ap (λ es. entry es (length older)) split ∙ (among newer older e).is in
    ap₂ (λ x o. x ++ (line_in (scene_of v) o ++ codes "\n")) h found

-- where a line stands among them
line_stands : (s : Scene) (newer older : List Entry) (e : Entry) → drop (length (all_lines s older)) (all_lines s (newer ++ e ∷ older)) ≡ declaration_line s e ++ (10 ∷ all_lines s newer)
line_stands s newer older e =
    ap (drop (length (all_lines s older))) (lines_append s newer (e ∷ older) ∙ append_assoc (all_lines s older) (declaration_line s e ++ codes "\n") (all_lines s newer))
    ∙ drop-append_seam (all_lines s older) ((declaration_line s e ++ codes "\n") ++ all_lines s newer)
    ∙ append_assoc (declaration_line s e) (10 ∷ []) (all_lines s newer)

-- one more row that is taken away
no_row : (t : Table) (name x : List ℕ) → get t x ≡ None → get (remove t name) x ≡ None
no_row t name x h = get-remove nat_list_cmp_total t name x ∙ by_test (eq_by_cmp name_order x name)
  where
    by_test : (b : Bool) → cond b None (get t x) ≡ None
    by_test true = refl
    by_test false = h

module _ (v u : View) (o : IsViewInOrder v) (i : v.parameters.implicit ≡ false) (room : HasRoom (scene_of v)) (none : AllEntries (λ e. e.implicit ≡ zero) v.signature) (no_rows : HasNoRows v)
    (plain : AllEntries (HasPlainLine (scene_of v)) v.signature) (begins : IsViewInOrder u) (empty : u.signature ≡ []) (rowless : HasNoRows u) (text : List ℕ) (is : text ≡ all_lines (scene_of v) v.signature) (limits : IsFileWithinLimits text) where
  -- the lines of these entries are loaded, and what stands behind them is the next line
  record Loaded (older : List Entry) : Type 0 where
    pub after : View
    pub lines : List ℕ
    pub upto : ℕ
    pub declares : Declares text u 0 lines after upto
    pub order : IsViewInOrder after
    pub rows : HasNoRows after
    pub alike : AreAlike older after.signature
    pub explicit : AllEntries (λ e. e.implicit ≡ zero) after.signature
    pub next : first_token text upto ≡ first_token text (length (all_lines (scene_of v) older))

  -- the session with the entries that the lines declared in place of those that they show
  module _ (newer older : List Entry) (e : Entry) (split : v.signature ≡ newer ++ e ∷ older) (p : Loaded older) where
    abbrev fs : List Entry
    fs = p.after.signature

    abbrev mixed : View
    mixed = record v { signature = newer ++ e ∷ fs }

    canonical : IsCanonicalSignature (e ∷ older)
    canonical = canonical_rest newer (e ∷ older) (subst IsCanonicalSignature split o.canonical)

    stands : IsCanonicalEntry (signature_of fs) e
    stands = subst (λ Σ. IsCanonicalEntry Σ e) (same_signature older fs p.alike) canonical.1

    both_alike : AreAlike (e ∷ older) (e ∷ fs)
    both_alike = (record { name = refl; body = refl; implicit = refl }, p.alike)

    alike : AreAlike v.signature (newer ++ e ∷ fs)
    alike = subst (λ es. AreAlike es (newer ++ e ∷ fs)) (sym split) (alike_append newer (e ∷ older) (e ∷ fs) both_alike)

    all_mixed : (P : Entry → Type 0) → AllEntries P v.signature → AllEntries P fs → AllEntries P (newer ++ e ∷ fs)
    all_mixed P h k = replaced P newer e older fs (subst (AllEntries P) split h) k

    mixed_order : IsViewInOrder mixed
    mixed_order = record {
      canonical = canonical_replaced newer (e ∷ older) (e ∷ fs) both_alike (subst IsCanonicalSignature split o.canonical) (p.order.canonical, stands);
      names = all_at (λ f. IsName f.name) (newer ++ e ∷ fs) (all_mixed (λ f. IsName f.name) (all_of (λ f. IsName f.name) v.signature o.names) (all_of (λ f. IsName f.name) fs p.order.names));
      hints = all_at (λ f. AreGoodHints f.hints) (newer ++ e ∷ fs) (all_mixed (λ f. AreGoodHints f.hints) (all_of (λ f. AreGoodHints f.hints) v.signature o.hints) (all_of (λ f. AreGoodHints f.hints) fs p.order.hints));
      preferences = o.preferences;
      rows = λ x fix c f r n q. let clash : None ≡ Some fix = sym (no_rows x) ∙ r in cc;
    }

    mixed_none : HasNoImplicit (scene_of mixed)
    mixed_none = all_at (λ f. f.implicit ≡ zero) (newer ++ e ∷ fs) (all_mixed (λ f. f.implicit ≡ zero) none p.explicit)

    mixed_room : HasRoom (scene_of mixed)
    mixed_room = subst (λ n. n + len v.fixities + nesting_limit < 2 ^ 64) (same_length v.signature (newer ++ e ∷ fs) alike) room

    line : declaration_line (scene_of v) e ≡ declaration_line (scene_of mixed) e
    line = line_same v.signature (newer ++ e ∷ fs) alike v.fixities v.names v.parameters.implicit e

    mixed_plain : HasPlainLine (scene_of mixed) e
    mixed_plain = subst (λ x. EachIs IsPlainByte (drop (length (render (keyword e.body))) x)) line (middle (HasPlainLine (scene_of v)) newer e older (subst (AllEntries (HasPlainLine (scene_of v))) split plain))

    abbrev from : ℕ
    from = length (all_lines (scene_of v) older)

    at : drop from text ≡ declaration_line (scene_of v) e ++ (10 ∷ all_lines (scene_of v) newer)
    at = ap (drop from) (is ∙ ap (all_lines (scene_of v)) split) ∙ line_stands (scene_of v) newer older e

    abbrev upto : ℕ
    upto = from + length (declaration_line (scene_of mixed) e)

    back : LineReadsBack (scene_of mixed) fs p.after.fixities e
    back = line_back mixed newer fs e p.after.fixities mixed_order i mixed_room refl (λ x q. p.rows x ∙ sym (no_rows x)) mixed_none mixed_plain

    again : IsMadeAgain p.after e text from upto
    again = read_made p.after e text from upto p.order.canonical (back text (10 ∷ all_lines (scene_of v) newer) from (at ∙ ap (λ x. x ++ (10 ∷ all_lines (scene_of v) newer)) line)) stands (λ tokens h. (limits tokens from upto h).1)

    accepts : AcceptsFrom p.after text p.upto (entry_report p.after again.entry) upto (with_entry p.after again.entry)
    accepts = record {
      words = lexemes text again.tokens;
      end = place_of text upto;
      written = record {
        tokens = again.tokens;
        through = passed text p.upto from again.tokens upto p.next again.through;
        few = (limits again.tokens from upto again.through).0;
        spelled = refl;
        behind = refl;
      };
      makes = again.makes;
    }

    behind : first_token text upto ≡ first_token text (length (all_lines (scene_of v) (e ∷ older)))
    behind =
        let rest = all_lines (scene_of v) newer in
        let l = length-append (all_lines (scene_of v) older) (declaration_line (scene_of v) e ++ codes "\n") in
        let m : length (declaration_line (scene_of v) e ++ codes "\n") ≡ length (declaration_line (scene_of v) e) + 1 = length-append (declaration_line (scene_of v) e) (codes "\n") in
        let n = ap length line in
        let reach : upto + 1 ≡ length (all_lines (scene_of v) (e ∷ older)) = omega (arith, l, m, n) in
        line_feed_passed text upto rest (drop_on text from (declaration_line (scene_of mixed) e) (10 ∷ rest) (at ∙ ap (λ x. x ++ (10 ∷ rest)) line))
        ∙ ap (first_token text) reach

    step : Loaded (e ∷ older)
    step = record {
      after = with_entry p.after again.entry;
      lines = p.lines ++ (entry_report p.after again.entry).text;
      upto = upto;
      declares = one_more p.declares accepts;
      order = accepting_from_keeps p.after (with_entry p.after again.entry) text (entry_report p.after again.entry) p.upto upto accepts p.order;
      rows = λ x. no_row p.after.fixities again.entry.name x (p.rows x);
      alike = (record { name = again.name; body = again.body; implicit = again.implicit ∙ sym (middle (λ f. f.implicit ≡ zero) newer e older (subst (AllEntries (λ f. f.implicit ≡ zero)) split none)) }, p.alike);
      explicit = (again.implicit, p.explicit);
      next = behind;
    }

  load : (newer older : List Entry) → v.signature ≡ newer ++ older → Loaded older
  load newer [] split = record {
    after = u;
    lines = [];
    upto = 0;
    declares = no_more;
    order = begins;
    rows = rowless;
    alike = subst (AreAlike []) (sym empty) tt;
    explicit = subst (AllEntries (λ e. e.implicit ≡ zero)) (sym empty) tt;
    next = refl;
  }
  load newer (e ∷ older) split = step newer older e split (load (newer ++ e ∷ []) older (split ∙ sym (append_assoc newer (e ∷ []) older)))

  -- only the end of the text is left behind them
  nothing_left : (upto : ℕ) → first_token text upto ≡ first_token text (length (all_lines (scene_of v) v.signature)) → HasNoMore text upto
  nothing_left upto h =
      let n = length (all_lines (scene_of v) v.signature) in
      let l = ap length is in
      (token text End n n, h ∙ seek-end text between n (omega (arith, l)), refl)

pub signature_back : SignatureReadsBack
signature_back v u o i room none no_rows plain begins empty rowless limits =
    let text = first_lines v (length v.signature) in
    let is = lines_are v [] v.signature refl in
    let every = all_of (λ e. e.implicit ≡ zero) v.signature none in
    let lines = all_of (HasPlainLine (scene_of v)) v.signature plain in
    let p = load v u o i room every no_rows lines begins empty rowless text is limits [] v.signature refl in
    record {
      after = p.after;
      loads = λ name. (
        (opening name ++ p.lines) ++ ([] ++ closing name),
        record {
          reports = p.lines;
          upto = p.upto;
          shown = [];
          makes = p.declares;
          ends = (nothing_left v u o i room every no_rows lines begins empty rowless text is limits p.upto p.next, refl);
          says = refl;
        },
      );
      alike = p.alike;
    }
