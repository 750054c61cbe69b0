-- What is asked of a program, and that its code fits it.
use Rattle.std.proofs.Common.{◌≡◌, ℕ, zero, suc, ◌+◌, true, List, [], ◌∷◌, ◌++◌, map, length, get_or, slice_get, Some, refl, ap}
use Rattle.std.specs.Option.{option_map_or}
use Rattle.std.specs.List.{fold}
use Rattle.c_types.specs.Types.{VoidY}
use Rattle.c_types.specs.View.{tstmts}
use Rattle.c_types.specs.Programs.{TFunctionT, ProgramT}
use Rattle.c_meaning.specs.Setting.{Setting, setting}
use Rattle.mid_code.specs.Code.{CodeT}
use Rattle.mid_code.specs.States.{no_function, function_at}
use Rattle.lower_trees.specs.Shape.{Shape, shape}
use Rattle.lower_trees.specs.Counts.{stmts_sizes}
use Rattle.lower_trees.specs.Parts.{first_param}
use Rattle.lower_trees.specs.Lowered.{lowered, args_from, with_result, low_function}
use Rattle.c_types.specs.Kinds.{is_void}
use Rattle.mid_lower.proofs.Trees.{PlainStmts, Below}
use Rattle.mid_lower.proofs.Fits.{Fits}
use Rattle.mid_lower.proofs.EveryBound.{Lowers}

-- Structures are values where they are used as such, functions make their own locals, and main is there and gives no
-- result.
pub record IsPlain (p : ProgramT) : Type 0 where
  pub made : (f : ℕ) (g : TFunctionT) → slice_get p.functions f ≡ Some g → Below (length g.locals) g.made
  pub tidy : (f : ℕ) (g : TFunctionT) → slice_get p.functions f ≡ Some g → PlainStmts (shape p) (length g.locals) g.gives g.body
  pub inits : PlainStmts (shape p) 0 VoidY (tstmts p.inits)
  pub quiet : stmts_sizes (shape p) (tstmts p.inits) ≡ []
  pub main : (g : TFunctionT) × (slice_get p.functions p.main ≡ Some g) × (is_void g.gives ≡ true)

-- ---- the code of a program fits it

pub function_is : (h : Shape) (fs : List TFunctionT) (f : ℕ) (g : TFunctionT) → slice_get fs f ≡ Some g → get_or (map (low_function h) fs) f no_function ≡ low_function h g
function_is h [] f g e = ap (λ o. option_map_or (low_function h) o no_function) e
function_is h (x ∷ fs) zero g e = ap (λ o. option_map_or (low_function h) o no_function) e
function_is h (x ∷ fs) (suc f) g e = function_is h fs f g e

pub locals_are : (h : Shape) (fs : List TFunctionT) (f : ℕ) → (get_or (map (low_function h) fs) f no_function).locals ≡ option_map_or (λ g. g.locals) (slice_get fs f) [] ++ option_map_or (λ g. stmts_sizes h g.body) (slice_get fs f) []
locals_are h [] f = refl
locals_are h (x ∷ fs) zero = refl
locals_are h (x ∷ fs) (suc f) = locals_are h fs f

pub map_length : {A B : Type 0} (f : A → B) (xs : List A) → length (map f xs) ≡ length xs
map_length f [] = refl
map_length f (x ∷ xs) = ap suc (map_length f xs)

pub sums_from : {A : Type 0} (f : A → ℕ) (z : ℕ) (xs : List A) → fold ◌+◌ z (map f xs) ≡ fold (λ n x. n + f x) z xs
sums_from f z [] = refl
sums_from f z (x ∷ xs) = sums_from f (z + f x) xs

module _ (p : ProgramT) (frames : List ℕ) (sc : IsPlain p) where
  abbrev x : CodeT ℕ
  x = lowered p

  abbrev s : Setting
  s = setting p frames

  pub params_are : (f : ℕ) (g : TFunctionT) → slice_get p.functions f ≡ Some g → (function_at x f).params ≡ with_result g.gives (args_from first_param g.params)
  params_are f g e = ap (λ k. k.params) (function_is (shape p) p.functions f g e)

  abbrev pub fits : Fits s x frames
  fits = record {
    frame = λ f. refl;
    globals = sums_from (λ g. g.1) 0 p.globals;
    first_literal = map_length (λ g. g.1) p.globals;
    card = ap (λ n. n + length p.literals) (map_length (λ g. g.1) p.globals);
    more = λ f. option_map_or (λ g. stmts_sizes (shape p) g.body) (slice_get p.functions f) [];
    locals = λ f. locals_are (shape p) p.functions f;
    params = params_are;
  }

  abbrev pub lowers : Lowers s x frames
  lowers = record {
    fits = fits;
    body = λ f g e. ap (λ k. k.body) (function_is (shape p) p.functions f g e);
    own = λ f g e. ap (λ o. option_map_or (λ k. k.locals) o []) e;
    behind = λ f g e. ap (λ o. option_map_or (λ k. stmts_sizes (shape p) k.body) o []) e;
    made = sc.made;
    tidy = sc.tidy;
  }
