-- The stack of waiting signs that a vector stands for.
use Rattle.std.proofs.Common.{◌≡◌, List, [], ◌∷◌, ◌++◌, map, reverse, length, true, false, ◌&&◌, None, Some, refl, ap, ◌∙◌, arith}
use Rattle.std.proofs.lemmas.List.{reverse-append, map-append}
use Rattle.tw_parse.specs.Piles.{Waiting, Settled, waits, yields, takes, closed, settle, settle_all, waiting_of, stack_of}
use Rattle.tw_parse.specs.declared.pile.Pending.{Pending}
use Rattle.tw_parse.specs.declared.sign.Sign.{Sign}

pub stack_push : (ps : List Pending) (p : Pending) → stack_of (ps ++ p ∷ []) ≡ waiting_of p ∷ stack_of ps
stack_push ps p = ap reverse (map-append waiting_of ps (p ∷ [])) ∙ reverse-append (map waiting_of ps) (waiting_of p ∷ [])

no_items : (ps : List Pending) → length ps ≡ 0 → ps ≡ []
no_items [] e = refl
no_items (p ∷ ps) e = absurd (omega arith)

pub no_stack : (ps : List Pending) → length ps ≡ 0 → stack_of ps ≡ []
no_stack ps e = ap stack_of (no_items ps e)

-- one step of settling
pub stays : (w : Waiting) (ws : List Waiting) (x : Settled) (t : Sign) → waits w.by t ≡ true → yields w.by t ≡ false → settle (w ∷ ws) x t ≡ Some (w ∷ ws, x)
stays w ws x t e f = rw (e, f) refl

pub clashes : (w : Waiting) (ws : List Waiting) (x : Settled) (t : Sign) → waits w.by t ≡ true → yields w.by t ≡ true → settle (w ∷ ws) x t ≡ None
clashes w ws x t e f = rw (e, f) refl

pub goes : (w : Waiting) (ws : List Waiting) (x : Settled) (t : Sign) → waits w.by t ≡ false → yields w.by t ≡ true → takes w x.level ≡ true → settle (w ∷ ws) x t ≡ settle ws (closed w x) t
goes w ws x t e f g = rw (e, f, g) refl

pub misses : (w : Waiting) (ws : List Waiting) (x : Settled) (t : Sign) → waits w.by t ≡ false → yields w.by t && takes w x.level ≡ false → settle (w ∷ ws) x t ≡ None
misses w ws x t e f = rw (e, f) refl

pub all_goes : (w : Waiting) (ws : List Waiting) (x : Settled) → takes w x.level ≡ true → settle_all (w ∷ ws) x ≡ settle_all ws (closed w x)
all_goes w ws x e = rw e refl

pub all_misses : (w : Waiting) (ws : List Waiting) (x : Settled) → takes w x.level ≡ false → settle_all (w ∷ ws) x ≡ None
all_misses w ws x e = rw e refl
