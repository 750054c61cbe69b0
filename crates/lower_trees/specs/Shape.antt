-- What the lowering reads of a program, beside the tree that it goes over.
use Rattle.std.specs.Prelude.{ℕ, ◌+◌, ◌%◌, ◌^◌, List, [], length, slice_get}
use Rattle.std.specs.Option.{option_map_or}
use Rattle.c_types.specs.Types.{Ty, VoidY, LayoutT}
use Rattle.c_types.specs.Sizes.{words_of}
use Rattle.c_types.specs.Programs.{TFunctionT, ProgramT}
use Rattle.c_meaning.specs.Setting.{Setting}

-- The layouts by the numbers of structures and unions; the functions and the text literals by theirs.
pub record Shape : Type 0 where
  pub layouts : List LayoutT
  pub functions : List TFunctionT
  pub literals : List (List ℕ)

abbrev pub shape : ProgramT → Shape
shape p = record { layouts = p.layouts; functions = p.functions; literals = p.literals }

-- that of the meaning's setting
abbrev pub shape_in : Setting → Shape
shape_in s = record { layouts = s.layouts; functions = s.functions; literals = s.literals }

-- The words of a type, as a word of the console. A type of a checked program has at most 4,194,304.
abbrev pub words : Shape → Ty → ℕ
words h ty = words_of h.layouts ty % 2 ^ 32

-- the words of a text literal, with its 0
abbrev pub literal_words : Shape → ℕ → ℕ
literal_words h number = option_map_or (λ t. length t + 1) (slice_get h.literals number) 0

-- the types of the parameters and of the result of a function, by its number
abbrev pub params_of : Shape → ℕ → List Ty
params_of h f = option_map_or (λ g. g.params) (slice_get h.functions f) []

abbrev pub result_of : Shape → ℕ → Ty
result_of h f = option_map_or (λ g. g.gives) (slice_get h.functions f) VoidY
