-- Assignments that give the first variables the same, and what is of these variables.
use Rattle.std.proofs.Common.{◌≡◌, ◌≢◌, ℕ, ◌≤◌, List, [], ◌∷◌, ◌++◌, map, Bool, true, false, ◌==◌, arith, refl, sym, ap, ◌∙◌}
use Rattle.std.proofs.lemmas.Bool.Decides.{nat_tests}
use Rattle.lf.specs.Syntax.{Skeleton}
use Rattle.tw_approx.specs.Skeletons.{Frees}
use Rattle.tw_approx.specs.Walks.{Assignment, Variables, Agrees, SameBelow, ShapesWithin, VariablesWithin, NumbersWithin, filled_all}
use Rattle.tw_shapes.specs.Shapes.{Shape, variable, base, arrow, filled, IsWithin}

pub filled_below : (n : ℕ) (θ ρ : Assignment) (S : Shape) → IsWithin n S → SameBelow n θ ρ → filled θ S ≡ filled ρ S
filled_below n θ ρ (variable m) w e = e m w
filled_below n θ ρ (base c) w e = refl
filled_below n θ ρ (arrow S T) (w, v) e = let a = filled_below n θ ρ S w e in let b = filled_below n θ ρ T v e in cc (a, b)

pub all_below : (n : ℕ) (θ ρ : Assignment) (G : List Shape) → ShapesWithin n G → SameBelow n θ ρ → filled_all θ G ≡ filled_all ρ G
all_below n θ ρ [] w e = refl
all_below n θ ρ (S ∷ G) (w, v) e = let a = filled_below n θ ρ S w e in let b = all_below n θ ρ G v e in cc (a, b)

pub numbers_below : (n : ℕ) (θ ρ : Assignment) (ms : List ℕ) → NumbersWithin n ms → SameBelow n θ ρ → map θ ms ≡ map ρ ms
numbers_below n θ ρ [] w e = refl
numbers_below n θ ρ (m ∷ ms) (w, v) e = let a = e m w in let b = numbers_below n θ ρ ms v e in cc (a, b)

pub agrees_below : (n : ℕ) (f : Frees) (θ ρ : Assignment) (xs : Variables) → VariablesWithin n xs → SameBelow n θ ρ → Agrees f θ xs → Agrees f ρ xs
agrees_below n f θ ρ [] w e g = tt
agrees_below n f θ ρ ((x, m) ∷ xs) (w, v) e (a, b) = (a ∙ e m w, agrees_below n f θ ρ xs v e b)

pub fewer_below : (m n : ℕ) (θ ρ : Assignment) → m ≤ n → SameBelow n θ ρ → SameBelow m θ ρ
fewer_below m n θ ρ le e i lt = e i (omega arith)

pub shape_more : (m n : ℕ) (S : Shape) → m ≤ n → IsWithin m S → IsWithin n S
shape_more m n (variable i) le w = omega arith
shape_more m n (base c) le w = tt
shape_more m n (arrow S T) le (w, v) = (shape_more m n S le w, shape_more m n T le v)

pub shapes_more : (m n : ℕ) (G : List Shape) → m ≤ n → ShapesWithin m G → ShapesWithin n G
shapes_more m n [] le w = tt
shapes_more m n (S ∷ G) le (w, v) = (shape_more m n S le w, shapes_more m n G le v)

pub variables_more : (m n : ℕ) (xs : Variables) → m ≤ n → VariablesWithin m xs → VariablesWithin n xs
variables_more m n [] le w = tt
variables_more m n ((x, i) ∷ xs) le (w, v) = (omega arith, variables_more m n xs le v)

pub numbers_more : (m n : ℕ) (ms : List ℕ) → m ≤ n → NumbersWithin m ms → NumbersWithin n ms
numbers_more m n [] le w = tt
numbers_more m n (i ∷ ms) le (w, v) = (omega arith, numbers_more m n ms le v)

pub numbers_behind : (n : ℕ) (ms is : List ℕ) → NumbersWithin n (ms ++ is) → NumbersWithin n is
numbers_behind n [] is w = w
numbers_behind n (m ∷ ms) is (w, v) = numbers_behind n ms is v

pub numbers_both : (n : ℕ) (ms is : List ℕ) → NumbersWithin n ms → NumbersWithin n is → NumbersWithin n (ms ++ is)
numbers_both n [] is w v = v
numbers_both n (m ∷ ms) is (w, u) v = (w, numbers_both n ms is u v)

-- an assignment with one variable changed
abbrev pub chosen : Bool → Skeleton → Skeleton → Skeleton
chosen true k l = k
chosen false k l = l

abbrev pub updated : Assignment → ℕ → Skeleton → Assignment
updated θ m k n = chosen (n == m) k (θ n)

same_test : (m : ℕ) → (m == m) ≡ true
same_test m = grind (arith, nat_tests)

other_test : (n m : ℕ) → n ≢ m → (n == m) ≡ false
other_test n m d = grind (arith, nat_tests, d)

pub updated_at : (θ : Assignment) (m : ℕ) (k : Skeleton) → updated θ m k m ≡ k
updated_at θ m k = ap (λ b. chosen b k (θ m)) (same_test m)

pub updated_off : (θ : Assignment) (m : ℕ) (k : Skeleton) (n : ℕ) → n ≢ m → updated θ m k n ≡ θ n
updated_off θ m k n d = ap (λ b. chosen b k (θ n)) (other_test n m d)

pub updated_below : (θ : Assignment) (m : ℕ) (k : Skeleton) → SameBelow m θ (updated θ m k)
updated_below θ m k n lt = sym (updated_off θ m k n (λ e. omega (arith, e)))
