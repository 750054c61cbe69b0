-- What the meaning reads of a program, beside the tree that it goes over.
use Rattle.std.specs.Prelude.{ℕ, ◌+◌, ◌%◌, ◌^◌, List, [], length, sum_by, get_or, slice_get, Option, Some, None}
use Rattle.std.specs.Option.{option_map_or}
use Rattle.c_types.specs.Types.{Ty, VoidY, LayoutT}
use Rattle.c_types.specs.Sizes.{words_of}
use Rattle.c_types.specs.Programs.{TFunctionT, ProgramT}
use Rattle.obj_mem.specs.declared.cell.Cell.{Cell}
use Rattle.obj_mem.specs.declared.cell.Cell.TheVariants.{Ptr}
use Rattle.obj_mem.specs.Stores.{Sizes}

-- The layouts by the numbers of structures and unions; the functions and the text literals by theirs; and the sizes that a run goes by.
pub record Setting : Type 0 where
  pub layouts : List LayoutT
  pub functions : List TFunctionT
  pub literals : List (List ℕ)
  pub sizes : Sizes

-- The words of a type, as a word of the console: sizes and offsets wrap as all numbers do. A type of a checked program has at most 4,194,304.
abbrev pub words : Setting → Ty → ℕ
words s ty = words_of s.layouts ty % 2 ^ 32

-- ---- objects by number

abbrev pub global_at : ℕ → Cell
global_at number = Ptr number 0

abbrev pub literal_at : Setting → ℕ → Cell
literal_at s number = Ptr (s.sizes.first_literal + number) 0

abbrev pub card_at : Setting → Cell
card_at s = Ptr s.sizes.card 0

-- the words of a text literal, with its 0
abbrev pub literal_words : Setting → ℕ → ℕ
literal_words s number = option_map_or (λ t. length t + 1) (slice_get s.literals number) 0

-- the type of the result of a function, by its number
abbrev pub result_of : Setting → Option ℕ → Ty
result_of s None = VoidY
result_of s (Some f) = option_map_or (λ g. g.gives) (slice_get s.functions f) VoidY

-- ---- the setting of a program

abbrev pub sizes_of : ProgramT → (frames : List ℕ) → Sizes
sizes_of p frames = record {
  frame = λ f. get_or frames f 0;
  locals = λ f. option_map_or (λ g. g.locals) (slice_get p.functions f) [];
  globals = sum_by (λ g. g.1) p.globals;
  first_literal = length p.globals;
  card = length p.globals + length p.literals;
}

abbrev pub setting : ProgramT → (frames : List ℕ) → Setting
setting p frames = record { layouts = p.layouts; functions = p.functions; literals = p.literals; sizes = sizes_of p frames }
