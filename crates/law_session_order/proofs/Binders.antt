-- The names in a declaration are names where its tokens have names as names.
use Rattle.std.proofs.Common.{◌≡◌, ℕ, zero, suc, List, [], ◌∷◌, ◌++◌, Bool, true, false, cond, Option, Some, None, refl, subst, inl, inr}
use Rattle.std.specs.Prelude.{◌⊎◌, codes}
use Rattle.std.specs.FinMap.{get}
use Rattle.std.specs.Str.{bytes_eq}
use Rattle.std.specs.Cmp.Lexicographic.{bytes_decides}
use Rattle.lf.specs.Entries.{Entry}
use Rattle.tw_approx.specs.Names.{IsFreeIn, IsFreeInDomain, IsFreeInType, IsFreeVariable}
use Rattle.tw_names.specs.Texts.{hints}
use Rattle.tw_names.specs.Scope.{binder_name}
use Rattle.tw_fixity.specs.declared.table.Fix.{Fix}
use Rattle.tw_lexer.specs.declared.place.Place.{Place}
use Rattle.tw_parse.specs.Grammar.{Item, atom, sign, joined, applied, Reads, alone, apply, between, before, behind, bound}
use Rattle.tw_parse.specs.Outlines.{Table, operator_with, sign_of, Outline, outline, Nodes, none, more, Node, leaf, mark, group, binding, typed_binding, Begins, a_sign, a_name, a_hole, a_type, a_group, Row, empty, one_more, Sequence, plain, with_binder, Binds, without_type, with_type, Head, a_definition, a_check, an_abbreviation, Shapes, declares, defines, defines_typed, prefers, prefers_both, gives}
use Rattle.tw_parse.specs.Readings.{Means, means, Lists, no_items, one_item, IsItem, a_leaf, a_mark, a_group as group_item, a_binding, a_typed_binding, MeansAll, declared, defined, defined_typed, preferred, given, Declares}
use Rattle.tw_parse.specs.Syntax.{Term, Domain, identifier, hole, star, arrow, pi, lambda, application, ascription, untyped, typed, DeclarationOf, Declaration, declare, define, prefer, give}
use Rattle.tw_parse.specs.Words.{Lexeme, is_bindable}
use Rattle.tw_parse.specs.declared.sign.Sign.{Sign}
use Rattle.tw_parse.specs.declared.sign.Sign.TheVariants.{Separator, Operator}
use Rattle.tw_parse.specs.declared.words.Binder.{Binder}
use Rattle.tw_parse.specs.declared.words.Binder.TheVariants.{Pi, Lambda}
use Rattle.tw_parse.specs.declared.words.Separator.TheVariants.{Forward, Backward, Colon}
use Rattle.tw_parse.specs.declared.words.Word.{Word}
use Rattle.tw_parse.specs.declared.words.Word.TheVariants as words
use Rattle.tw_parse.specs.Queries.{Query, asked}
use Rattle.tw_parse_queries.specs.Bounds.{bound_of}
use Rattle.tw_parse_queries.specs.Searches as searches
use Rattle.tw_parse_queries.specs.declared.search.ExtBound.{ExtBound}
use Rattle.tw_recon.specs.Hints.{lambda_hints, written_hints}
use Rattle.tw_fixity.specs.Names.{Names}
use Rattle.law_reading_back.specs.Names.{IsName, AreGoodHints, PreferNames}
use Rattle.law_session_order.specs.Laws.{DeclaredIsNamed, DefinedIsNamed, FreeAreNamed, PreferredAreNames}
use Rattle.law_session_order.specs.Words.{IsSpelled, AreSpelled}

-- a binder's name is a name, if it has one
abbrev BindsName : List ℕ → Type 0
BindsName x = (y : List ℕ) → binder_name x ≡ Some y → IsName y

some_inj : {X : Type 0} {x y : X} → Some x ≡ Some y → x ≡ y
some_inj e = cc

bound_name : (x : List ℕ) → IsName x → BindsName x
bound_name x n y e = by_test (bytes_eq x (codes "_")) e
  where
    by_test : (b : Bool) → cond b None (Some x) ≡ Some y → IsName y
    by_test true q = cc
    by_test false q = subst IsName (some_inj q) n

bound_hole : (x : List ℕ) → x ≡ codes "_" → BindsName x
bound_hole x h y e = by_test (bytes_eq x (codes "_")) ((bytes_decides x (codes "_")).1 h) e
  where
    by_test : (b : Bool) → b ≡ true → cond b None (Some x) ≡ Some y → IsName y
    by_test true t q = cc
    by_test false t q = cc

bindable : (w : Word) (x : Lexeme) → IsSpelled x → x.word ≡ w → is_bindable w ≡ true → BindsName x.bytes
bindable words.Name x s e h = bound_name x.bytes (s.name e)
bindable words.Underscore x s e h = bound_hole x.bytes (s.hole e)
bindable words.Forward x s e h = cc
bindable words.Backward x s e h = cc
bindable words.Star x s e h = cc
bindable words.Equals x s e h = cc
bindable words.Keyword x s e h = cc
bindable words.Colon x s e h = cc
bindable words.Dot x s e h = cc
bindable words.LParen x s e h = cc
bindable words.RParen x s e h = cc
bindable words.LBrace x s e h = cc
bindable words.RBrace x s e h = cc
bindable words.LBracket x s e h = cc
bindable words.RBracket x s e h = cc
bindable words.End x s e h = cc

-- Each identifier in a term is a name, and so is each binder that has one.
abbrev mutual
  TermNamed : Term → Type 0
  TermNamed (identifier x at) = IsName x
  TermNamed (hole at) = Unit {0}
  TermNamed star = Unit {0}
  TermNamed (arrow U V) = TermNamed U × TermNamed V
  TermNamed (pi x at D V) = BindsName x × DomainNamed D × TermNamed V
  TermNamed (lambda x at D M) = BindsName x × DomainNamed D × TermNamed M
  TermNamed (application M P) = TermNamed M × TermNamed P
  TermNamed (ascription M A) = TermNamed M × TermNamed A

  DomainNamed : Domain → Type 0
  DomainNamed untyped = Unit {0}
  DomainNamed (typed A) = TermNamed A

abbrev SignNamed : Sign → Type 0
SignNamed (Separator by) = Unit {0}
SignNamed (Operator x at fix) = IsName x

-- the same of an outline
abbrev mutual
  Named : Outline → Type 0
  Named (outline at row) = AllNamed row

  AllNamed : Nodes → Type 0
  AllNamed none = Unit {0}
  AllNamed (more row n) = AllNamed row × NodeNamed n

  NodeNamed : Node → Type 0
  NodeNamed (leaf M) = TermNamed M
  NodeNamed (mark s) = SignNamed s
  NodeNamed (group O) = Named O
  NodeNamed (binding b x at O) = BindsName x × Named O
  NodeNamed (typed_binding b x at D O) = BindsName x × Named D × Named O

row_named_as : (x : List ℕ) (at : Place) (row : Option Fix) (s : Sign) → IsName x → operator_with x at row ≡ Some s → SignNamed s
row_named_as x at None s n e = cc
row_named_as x at (Some fix) s n e = subst SignNamed (some_inj e) n

-- the sign that a token is
sign_named : (table : Table) (w : Word) (x : List ℕ) (at : Place) (s : Sign) → (w ≡ words.Name → IsName x)
    → sign_of table (record { word = w; bytes = x; at = at }) ≡ Some s → SignNamed s
sign_named table words.Name x at s n e = row_named_as x at (get table x) s (n refl) e
sign_named table words.Forward x at s n e = subst SignNamed (some_inj e) tt
sign_named table words.Backward x at s n e = subst SignNamed (some_inj e) tt
sign_named table words.Colon x at s n e = subst SignNamed (some_inj e) tt
sign_named table words.Underscore x at s n e = cc
sign_named table words.Star x at s n e = cc
sign_named table words.Equals x at s n e = cc
sign_named table words.Keyword x at s n e = cc
sign_named table words.Dot x at s n e = cc
sign_named table words.LParen x at s n e = cc
sign_named table words.RParen x at s n e = cc
sign_named table words.LBrace x at s n e = cc
sign_named table words.RBrace x at s n e = cc
sign_named table words.LBracket x at s n e = cc
sign_named table words.RBracket x at s n e = cc
sign_named table words.End x at s n e = cc

mutual
  begins_named : {table : Table} {ts rest : List Lexeme} {n : Node} → Begins table ts n rest → AreSpelled ts → NodeNamed n × AreSpelled rest
  begins_named {table = table} (a_sign {x = x} {s = t} e) (s, all) = (sign_named table x.word x.bytes x.at t s.name e, all)
  begins_named (a_name e g) (s, all) = (s.name e, all)
  begins_named (a_hole e) (s, all) = (tt, all)
  begins_named (a_type e) (s, all) = (tt, all)
  begins_named (a_group e q g) (s, all) = let r = sequence_named q all in (r.0, r.1.1)

  row_named : {table : Table} {ts rest : List Lexeme} {row : Nodes} → Row table ts row rest → AreSpelled ts → AllNamed row × AreSpelled rest
  row_named empty all = (tt, all)
  row_named (one_more r b) all = let k = row_named r all in let n = begins_named b k.1 in ((k.0, n.0), n.1)

  sequence_named : {table : Table} {ts rest : List Lexeme} {O : Outline} → Sequence table ts O rest → AreSpelled ts → Named O × AreSpelled rest
  sequence_named (plain (one_more r b)) all = let k = row_named r all in let n = begins_named b k.1 in ((k.0, n.0), n.1)
  sequence_named (with_binder r b) all = let k = row_named r all in let n = binds_named b k.1 in ((k.0, n.0), n.1)

  binds_named : {table : Table} {ts rest : List Lexeme} {n : Node} → Binds table ts n rest → AreSpelled ts → NodeNamed n × AreSpelled rest
  binds_named (without_type {x = x} e f g q) (o, (s, (c, all))) = let k = sequence_named q all in ((bindable x.word x s refl f, k.0), k.1)
  binds_named (with_type {x = x} e f g q c t) (o, (s, (l, all))) =
      let d = sequence_named q all in
      let k = sequence_named t d.1.1 in ((bindable x.word x s refl f, d.0, k.0), k.1)

-- the same of items
abbrev ItemNamed : Item → Type 0
ItemNamed (atom M) = TermNamed M
ItemNamed (sign s) = SignNamed s

abbrev ItemsNamed : List Item → Type 0
ItemsNamed [] = Unit {0}
ItemsNamed (i ∷ is) = ItemNamed i × ItemsNamed is

items_append : (is js : List Item) → ItemsNamed is → ItemsNamed js → ItemsNamed (is ++ js)
items_append [] js h k = k
items_append (i ∷ is) js (g, h) k = (g, items_append is js h k)

items_left : (is js : List Item) → ItemsNamed (is ++ js) → ItemsNamed is
items_left [] js h = tt
items_left (i ∷ is) js (g, h) = (g, items_left is js h)

items_right : (is js : List Item) → ItemsNamed (is ++ js) → ItemsNamed js
items_right [] js h = h
items_right (i ∷ is) js (g, h) = items_right is js h

joined_named : (s : Sign) (M N : Term) → SignNamed s → TermNamed M → TermNamed N → TermNamed (joined s M N)
joined_named (Separator Forward) M N s g h = (g, h)
joined_named (Separator Backward) M N s g h = (h, g)
joined_named (Separator Colon) M N s g h = (g, h)
joined_named (Operator x at fix) M N s g h = ((s, g), h)

applied_named : (s : Sign) (M : Term) → SignNamed s → TermNamed M → TermNamed (applied s M)
applied_named (Separator by) M s g = g
applied_named (Operator x at fix) M s g = (s, g)

-- what items read as
reads_named : {f : Option Sign} {is : List Item} {M : Term} → Reads f is M → ItemsNamed is → TermNamed M
reads_named alone h = h.0
reads_named (apply {row = row} {N = N} e r) h =
    let all : ItemsNamed (row ++ atom N ∷ []) = subst ItemsNamed e h in
    (reads_named r (items_left row (atom N ∷ []) all), (items_right row (atom N ∷ []) all).0)
reads_named (between s {left = left} {right = right} {M = M} {N = N} e r q t u) h =
    let all : ItemsNamed (left ++ sign s ∷ right) = subst ItemsNamed e h in
    let k = items_right left (sign s ∷ right) all in
    joined_named s M N k.0 (reads_named r (items_left left (sign s ∷ right) all)) (reads_named t k.1)
reads_named (before s {right = right} {N = N} e q t u) h =
    let all : ItemsNamed (sign s ∷ right) = subst ItemsNamed e h in applied_named s N all.0 (reads_named t all.1)
reads_named (behind s {left = left} {M = M} e q t u) h =
    let all : ItemsNamed (left ++ sign s ∷ []) = subst ItemsNamed e h in
    applied_named s M (items_right left (sign s ∷ []) all).0 (reads_named t (items_left left (sign s ∷ []) all))

bound_named : (b : Binder) (x : List ℕ) (at : Place) (A : Domain) (M : Term) → BindsName x → DomainNamed A → TermNamed M → TermNamed (bound b x at A M)
bound_named Pi x at A M n d g = (n, d, g)
bound_named Lambda x at A M n d g = (n, d, g)

mutual
  means_named : {O : Outline} {M : Term} → Means O M → Named O → TermNamed M
  means_named (means l r) n = reads_named r.0.1 (lists_named l n)

  lists_named : {row : Nodes} {is : List Item} → Lists row is → AllNamed row → ItemsNamed is
  lists_named no_items n = tt
  lists_named (one_item {items = is} {i = i} l h) (n, m) = items_append is (i ∷ []) (lists_named l n) (item_named h m, tt)

  item_named : {n : Node} {i : Item} → IsItem n i → NodeNamed n → ItemNamed i
  item_named a_leaf n = n
  item_named a_mark n = n
  item_named (group_item m) n = means_named m n
  item_named (a_binding {binder = b} {x = x} {at = at} {M = M} m) (n, k) = bound_named b x at untyped M n tt (means_named m k)
  item_named (a_typed_binding {binder = b} {x = x} {at = at} {A = A} {M = M} d m) (n, k, l) = bound_named b x at (typed A) M n (means_named d k) (means_named m l)

-- the same of a declaration
abbrev MaybeName : Option (List ℕ) → Type 0
MaybeName None = Unit {0}
MaybeName (Some c) = IsName c

abbrev MaybeNamed : Option Term → Type 0
MaybeNamed None = Unit {0}
MaybeNamed (Some A) = TermNamed A

abbrev DeclarationNamed : Declaration → Type 0
DeclarationNamed (declare c at U) = IsName c × TermNamed U
DeclarationNamed (define c A M b) = MaybeName c × MaybeNamed A × TermNamed M
DeclarationNamed (prefer a x y) = PreferNames (x, y)
DeclarationNamed (give fix names) = Unit {0}

head_spelled : {all rest : List Lexeme} {name : Option (List ℕ)} {b : Bool} → Head all name b rest → AreSpelled all → MaybeName name × AreSpelled rest
head_spelled (a_definition w) (s, all) = (s.name w, all)
head_spelled (a_check w) (s, all) = (tt, all)
head_spelled (an_abbreviation w f x) (k, (s, all)) = (s.name x, all)

shape_named : {table : Table} {ws : List Lexeme} {D : DeclarationOf Outline} {d : Declaration} → Shapes table ws D → MeansAll D d → AreSpelled ws → DeclarationNamed d
shape_named (declares w k s g) (declared m) (n, (c, all)) = (n.name w, means_named m (sequence_named s all).0)
shape_named (defines h w s g) (defined m) all =
    let k = head_spelled h all in
    let q = sequence_named s k.1.1 in (k.0, tt, means_named m q.0)
shape_named (defines_typed h w s v t g) (defined_typed m n) all =
    let k = head_spelled h all in
    let q = sequence_named s k.1.1 in
    let r = sequence_named t q.1.1 in (k.0, means_named m q.0, means_named n r.0)
shape_named (prefers w f g h i j) preferred (k, (b, (n, all))) = record { upper = n.name h; lower = λ q r. cc }
shape_named (prefers_both {y = u} w f g h i j k l) preferred (m, (b, (n, (o, all)))) = record { upper = n.name h; lower = λ q r. subst IsName (some_inj r) (o.name j) }
shape_named (gives words xs d w f g h i) given all = tt

declaration_named : (table : Table) (ws : List Lexeme) (d : Declaration) → AreSpelled ws → Declares table ws d → DeclarationNamed d
declaration_named table ws d all (D, shapes, meaning) = shape_named shapes meaning all

-- so the binders at the front of a term are names
no_hints : AreGoodHints []
no_hints k x e = cc

pub hints_more : (h : Option (List ℕ)) (hs : List (Option (List ℕ))) → ((y : List ℕ) → h ≡ Some y → IsName y) → AreGoodHints hs → AreGoodHints (h ∷ hs)
hints_more h hs n g zero x e = n x (some_inj e)
hints_more h hs n g (suc k) x e = g k x e

type_hints : (M : Term) → TermNamed M → AreGoodHints (hints M)
type_hints (arrow U V) n = hints_more None (hints V) (λ y e. cc) (type_hints V n.1)
type_hints (pi x at D V) n = hints_more (binder_name x) (hints V) n.0 (type_hints V n.2)
type_hints (identifier x at) n = no_hints
type_hints (hole at) n = no_hints
type_hints star n = no_hints
type_hints (lambda x at D M) n = no_hints
type_hints (application M P) n = no_hints
type_hints (ascription M A) n = no_hints

term_hints : (M : Term) → TermNamed M → AreGoodHints (lambda_hints M)
term_hints (lambda x at D M) n = hints_more (binder_name x) (lambda_hints M) n.0 (term_hints M n.2)
term_hints (identifier x at) n = no_hints
term_hints (hole at) n = no_hints
term_hints star n = no_hints
term_hints (arrow U V) n = no_hints
term_hints (pi x at D V) n = no_hints
term_hints (application M P) n = no_hints
term_hints (ascription M A) n = no_hints

-- and so are its free variables
mutual
  free_named : (es : List Entry) (x : List ℕ) (N : Names) (M : Term) → TermNamed M → IsFreeIn es x N M → IsName x
  free_named es x N (identifier y at) n h = subst IsName h.0 n
  free_named es x N (hole at) n h = absurd h
  free_named es x N star n h = absurd h
  free_named es x N (arrow U V) n (inl h) = free_named es x N U n.0 h
  free_named es x N (arrow U V) n (inr h) = free_named es x (None ∷ N) V n.1 h
  free_named es x N (pi y at D V) n (inl h) = free_in_domain es x N D n.1 h
  free_named es x N (pi y at D V) n (inr h) = free_named es x (binder_name y ∷ N) V n.2 h
  free_named es x N (lambda y at D M) n (inl h) = free_in_domain es x N D n.1 h
  free_named es x N (lambda y at D M) n (inr h) = free_named es x (binder_name y ∷ N) M n.2 h
  free_named es x N (application M P) n (inl h) = free_named es x N M n.0 h
  free_named es x N (application M P) n (inr h) = free_named es x N P n.1 h
  free_named es x N (ascription M A) n (inl h) = free_named es x N M n.0 h
  free_named es x N (ascription M A) n (inr h) = free_named es x N A n.1 h

  free_in_domain : (es : List Entry) (x : List ℕ) (N : Names) (D : Domain) → DomainNamed D → IsFreeInDomain es x N D → IsName x
  free_in_domain es x N untyped n h = absurd h
  free_in_domain es x N (typed A) n h = free_named es x N A n h

pub declared_named : DeclaredIsNamed
declared_named table ws name at A all r = let n = declaration_named table ws (declare name at A) all r in (n.0, type_hints A n.1)

maybe_name : (name : Option (List ℕ)) (c : List ℕ) → MaybeName name → name ≡ Some c → IsName c
maybe_name None c n e = cc
maybe_name (Some x) c n e = subst IsName (some_inj e) n

defined_hints : (name : Option (List ℕ)) (A : Option Term) (M : Term) (b : Bool) → MaybeNamed A → TermNamed M → AreGoodHints (written_hints (define name A M b))
defined_hints name None M b n m = term_hints M m
defined_hints name (Some A) M b n m = type_hints A n

pub defined_named : DefinedIsNamed
defined_named table ws name A M b all r = let n = declaration_named table ws (define name A M b) all r in (λ c e. maybe_name name c n.0 e, defined_hints name A M b n.1 n.2)

free_in_definition : (es : List Entry) (x : List ℕ) (A : Option Term) (M : Term) → MaybeNamed A → TermNamed M → IsFreeInType es x A ⊎ IsFreeIn es x [] M → IsName x
free_in_definition es x None M n m (inl h) = absurd h
free_in_definition es x (Some A) M n m (inl h) = free_named es x [] A n h
free_in_definition es x A M n m (inr h) = free_named es x [] M m h

free_in_named : (es : List Entry) (x : List ℕ) (d : Declaration) → DeclarationNamed d → IsFreeVariable es x d → IsName x
free_in_named es x (declare c at U) n h = free_named es x [] U n.1 h
free_in_named es x (define c A M b) n h = free_in_definition es x A M n.1 n.2 h
free_in_named es x (prefer a y z) n h = absurd h
free_in_named es x (give fix names) n h = absurd h

pub free_are_named : FreeAreNamed
free_are_named table ws d es x all r h = free_in_named es x d (declaration_named table ws d all r) h

pub preferred_names : PreferredAreNames
preferred_names table ws a x y all r = declaration_named table ws (prefer a x y) all r

-- what `%solve` defines has a name, and its goal has names
not_solved : (e t : Option ExtBound) (q : Option Query) (c : List ℕ) (at : Place) (A : Term) → searches.queried e t q ≡ Some (searches.solve c at A) → ⊥
not_solved (Some e) (Some t) (Some q) c at A h = let clash : Some (searches.query e t q) ≡ Some (searches.solve c at A) = h in absurd cc
not_solved (Some e) (Some t) None c at A h = let clash : None ≡ Some (searches.solve c at A) = h in absurd cc
not_solved (Some e) None q c at A h = let clash : None ≡ Some (searches.solve c at A) = h in absurd cc
not_solved None t q c at A h = let clash : None ≡ Some (searches.solve c at A) = h in absurd cc

same_solve : (c b : List ℕ) (at p : Place) (A B : Term) → Some (searches.solve c at A) ≡ Some (searches.solve b p B) → (c ≡ b) × (A ≡ B)
same_solve c b at p A B e = (cc, cc)

search_named : (table : Table) (ws : List Lexeme) (h : searches.Header) (goal : List Lexeme) (O : Outline) (M : Term) (c : List ℕ) (at : Place) (A : Term) → searches.Heads ws h goal → searches.Aims table h goal O → Means O M → searches.wanted h goal M ≡ Some (searches.solve c at A) → AreSpelled ws
    → IsName c × TermNamed A
search_named table ws (searches.counts e t) goal O M c at A x aims m w all = absurd (not_solved (bound_of e) (bound_of t) (asked goal M) c at A w)
search_named table ws (searches.names b p) goal O M c at A (searches.of_solve k f n l) (dot, d, s) m w (key, (x, (colon, all))) =
    let q = same_solve b c p at M A w in
    (subst IsName q.0 (x.name n), subst TermNamed q.1 (means_named m (sequence_named s all).0))

pub solved_named : (table : Table) (ws : List Lexeme) (c : List ℕ) (at : Place) (A : Term) → AreSpelled ws → searches.Searches table ws (searches.solve c at A) → IsName c × AreGoodHints (hints A) × ((es : List Entry) (x : List ℕ) → IsFreeIn es x [] A → IsName x)
solved_named table ws c at A all (h, goal, heads, (O, aims, (M, m, w))) =
    let n = search_named table ws h goal O M c at A heads aims m w all in (n.0, type_hints A n.1, λ es x f. free_named es x [] A n.1 f)
