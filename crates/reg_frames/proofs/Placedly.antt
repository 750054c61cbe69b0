-- Functions by the places of their choices.
use Rattle.std.proofs.Common.{◌≡◌, ℕ, List, [], ◌∷◌, ◌++◌, map, refl, sym, ap, subst, ◌∙◌}
use Rattle.mid_code.specs.declared.placed.Where.{Where}
use Rattle.mid_code.specs.declared.placed.Spots.{Spots}
use Rattle.mid_code.specs.declared.function.Function.{Function}
use Rattle.mid_code.specs.Code.{NodesT, FunctionT}
use Rattle.mid_code.specs.Functions.{function}
use Rattle.mid_code.specs.Placed.{SpotsT}
use Rattle.mid_code.specs.View.{spots}
use Rattle.reg_frames.specs.inner.Placing.{placing, placed_nodes, placed_function, placed_functions, frame_size, frame_sizes, spots_of, all_spots}
use Rattle.reg_frames.specs.Placeable.{first_of, later, ArePlaceable}

pub function_by : (w : ℕ → Where) (ws : List Where) (f : FunctionT ℕ) (g : FunctionT Where) → g ≡ placed_function w f → ((x : ℕ) → w x ≡ placing ws x) → g ≡ placed_function (placing ws) f
function_by w ws f g e h = e ∙ ap (λ v. placed_function v f) (λ i x. h x i)

pub function_made : (w : ℕ → Where) (f : FunctionT ℕ) (ps : List Where) (ls : List ℕ) (b : NodesT Where) → ps ≡ map w f.params → ls ≡ f.locals → b ≡ placed_nodes w f.body → record { temps = f.temps; params = ps; locals = ls; gives = f.gives; body = b } ≡ placed_function w f
function_made w f ps ls b e g h = ap (λ qs. made qs ls b) e ∙ ap (λ ks. made (map w f.params) ks b) g ∙ ap (made (map w f.params) f.locals) h
  where
    made : List Where → List ℕ → NodesT Where → FunctionT Where
    made qs ks c = record { temps = f.temps; params = qs; locals = ks; gives = f.gives; body = c }

-- ---- one turn over functions and choices

push_on : {A B : Type 0} (v : A → B) (xs : List A) (y : A) (zs : List B) → map v (xs ++ y ∷ []) ++ zs ≡ map v xs ++ v y ∷ zs
push_on v [] y zs = refl
push_on v (x ∷ xs) y zs = ap (λ ws. v x ∷ ws) (push_on v xs y zs)

turned : {A B : Type 0} (v : A → B) (xs ys : List A) (y : A) (b : B) (zs ws all : List B) → ys ≡ xs ++ y ∷ [] → v y ≡ b → ws ≡ b ∷ zs → map v xs ++ ws ≡ all → map v ys ++ zs ≡ all
turned v xs ys y b zs ws all e f g h = ap (λ us. map v us ++ zs) e ∙ push_on v xs y zs ∙ ap (λ d. map v xs ++ d ∷ zs) f ∙ sym (ap (λ us. map v xs ++ us) g) ∙ h

push_plain : {A : Type 0} (xs : List A) (y : A) (zs : List A) → (xs ++ y ∷ []) ++ zs ≡ xs ++ y ∷ zs
push_plain [] y zs = refl
push_plain (x ∷ xs) y zs = ap (λ ws. x ∷ ws) (push_plain xs y zs)

turned_plain : {A : Type 0} (xs ys : List A) (y b : A) (zs ws all : List A) → ys ≡ xs ++ y ∷ [] → y ≡ b → ws ≡ b ∷ zs → xs ++ ws ≡ all → ys ++ zs ≡ all
turned_plain xs ys y b zs ws all e f g h = ap (λ us. us ++ zs) e ∙ push_plain xs y zs ∙ ap (λ d. xs ++ d ∷ zs) f ∙ sym (ap (λ us. xs ++ us) g) ∙ h

split_functions : (wss : List (List Where)) (f : FunctionT ℕ) (fs : List (FunctionT ℕ)) → placed_functions wss (f ∷ fs) ≡ placed_function (placing (first_of wss)) f ∷ placed_functions (later wss) fs
split_functions [] f fs = refl
split_functions (ws ∷ wss) f fs = refl

split_sizes : (wss : List (List Where)) (f : FunctionT ℕ) (fs : List (FunctionT ℕ)) → frame_sizes wss (f ∷ fs) ≡ frame_size (first_of wss) f ∷ frame_sizes (later wss) fs
split_sizes [] f fs = refl
split_sizes (ws ∷ wss) f fs = refl

split_spots : (wss : List (List Where)) (f : FunctionT ℕ) (fs : List (FunctionT ℕ)) → all_spots wss (f ∷ fs) ≡ spots_of (first_of wss) f ∷ all_spots (later wss) fs
split_spots [] f fs = refl
split_spots (ws ∷ wss) f fs = refl

module _ (left more : List (Function ℕ)) (f : Function ℕ) (wss wss' : List (List Where)) (split : left ≡ f ∷ more) (rest : wss' ≡ later wss) where
  pub placeable_turn : ArePlaceable (map function left) wss → ArePlaceable (map function more) wss'
  placeable_turn h = subst (ArePlaceable (map function more)) (sym rest) (subst (λ fs. ArePlaceable (map function fs) wss) split h).1

  pub functions_turn : (xs ys : List (Function Where)) (y : Function Where) (all : List (FunctionT Where)) → ys ≡ xs ++ y ∷ [] → function y ≡ placed_function (placing (first_of wss)) (function f) → map function xs ++ placed_functions wss (map function left) ≡ all → map function ys ++ placed_functions wss' (map function more) ≡ all
  functions_turn xs ys y all e g h = turned function xs ys y (placed_function (placing (first_of wss)) (function f)) (placed_functions wss' (map function more)) (placed_functions wss (map function left)) all e g (ap (λ fs. placed_functions wss (map function fs)) split ∙ split_functions wss (function f) (map function more) ∙ ap (λ vss. placed_function (placing (first_of wss)) (function f) ∷ placed_functions vss (map function more)) (sym rest)) h

  pub sizes_turn : (xs ys : List ℕ) (y : ℕ) (all : List ℕ) → ys ≡ xs ++ y ∷ [] → y ≡ frame_size (first_of wss) (function f) → xs ++ frame_sizes wss (map function left) ≡ all → ys ++ frame_sizes wss' (map function more) ≡ all
  sizes_turn xs ys y all e g h = turned_plain xs ys y (frame_size (first_of wss) (function f)) (frame_sizes wss' (map function more)) (frame_sizes wss (map function left)) all e g (ap (λ fs. frame_sizes wss (map function fs)) split ∙ split_sizes wss (function f) (map function more) ∙ ap (λ vss. frame_size (first_of wss) (function f) ∷ frame_sizes vss (map function more)) (sym rest)) h

  pub spots_turn : (xs ys : List Spots) (y : Spots) (all : List SpotsT) → ys ≡ xs ++ y ∷ [] → spots y ≡ spots_of (first_of wss) (function f) → map spots xs ++ all_spots wss (map function left) ≡ all → map spots ys ++ all_spots wss' (map function more) ≡ all
  spots_turn xs ys y all e g h = turned spots xs ys y (spots_of (first_of wss) (function f)) (all_spots wss' (map function more)) (all_spots wss (map function left)) all e g (ap (λ fs. all_spots wss (map function fs)) split ∙ split_spots wss (function f) (map function more) ∙ ap (λ vss. spots_of (first_of wss) (function f) ∷ all_spots vss (map function more)) (sym rest)) h
