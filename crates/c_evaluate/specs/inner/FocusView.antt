-- What the machine's focus and frames in memory stand for.
use Rattle.std.specs.Prelude.{ℕ, List, drop, map, reverse}
use Rattle.c_types.specs.Typed.{TInitTs, TStmtT}
use Rattle.c_types.specs.declared.typed.TInit.{TInit}
use Rattle.c_types.specs.View.{texpr, texprs, tinit, tinits, tvar, tstmt, tstmts, tarm, tarms}
use Rattle.obj_mem.specs.declared.cell.Cell.{Cell}
use Rattle.obj_mem.specs.Stores.{Store}
use Rattle.c_evaluate.specs.declared.frame.Focus.{Focus}
use Rattle.c_evaluate.specs.declared.frame.Focus.TheVariants as o
use Rattle.c_evaluate.specs.declared.frame.Stage.{Stage}
use Rattle.c_evaluate.specs.declared.frame.Stage.TheVariants as y
use Rattle.c_evaluate.specs.declared.frame.Frame.{Frame}
use Rattle.c_evaluate.specs.declared.frame.Frame.TheVariants as f
use Rattle.c_types.specs.View.{or_void}
use Rattle.c_evaluate.specs.inner.StoreView.{caller}
use Rattle.c_evaluate.specs.inner.Machine.{EvalF, FillF, DoF, OutcomeF, MadeF, ExitF, FullF, FrameT, FirstW, SecondW, ArgumentW, BackW, ValueW, StepW}
use Rattle.c_evaluate.specs.inner.Machine.{BodyW, BeginW, RestW, ArmsW, EndW, SwitchW, OneW, ItemsW, VarsW, FilledW, MainW, Config, Going, Over}

abbrev pub at : Focus → List FrameT → Store → Config
at (o.Eval n x) k u = Going (EvalF n (texpr x.now)) k u
at (o.Fill n i ty p) k u = Going (FillF n (tinit i.now) (or_void ty) p) k u
at (o.Do n r a) k u = Going (DoF n r (tstmt a.now)) k u
at (o.Outcome v) k u = Going (OutcomeF v) k u
at (o.Made e v) k u = Going (MadeF e v) k u
at (o.Exit h) k u = Going (ExitF h) k u
at o.Full k u = Going FullF k u
at (o.Over end) k u = Over end

abbrev pub stmt_frame : Stage → (bound : ℕ) → (result : Cell) → TStmtT → FrameT
stmt_frame y.Value n r a = ValueW n r a
stmt_frame y.Step n r a = StepW n r a
stmt_frame y.Body n r a = BodyW n r a
stmt_frame y.Begin n r a = BeginW n r a

-- the items from a number on
abbrev pub items_from : List TInit → (k : ℕ) → TInitTs
items_from is k = tinits (drop k (map tinit is))

abbrev pub frame : Frame → FrameT
frame (f.First n x) = FirstW n (texpr x.now)
frame (f.Second n x c) = SecondW n (texpr x.now) c
frame (f.Argument n g span vs xs) = ArgumentW n g span vs.items (texprs (map texpr xs.now))
frame (f.Back g vs r span c) = BackW g vs.items r span (caller c.value)
frame (f.InStmt stage n r a) = stmt_frame stage n r (tstmt a.now)
frame (f.Rest n r xs) = RestW n r (tstmts (map tstmt xs.now))
frame (f.Arms n r xs) = ArmsW n r (tarms (map tarm xs.now))
frame (f.End made) = EndW made.now
frame f.Switch = SwitchW
frame (f.One n ty x p) = OneW n (or_void ty) (texpr x.now) p
frame (f.Items n is ty k p) = ItemsW n (items_from is.now k) (or_void ty) k p
frame (f.Vars n vs) = VarsW n (map tvar vs.now)
frame f.Filled = FilledW
frame (f.Main n main) = MainW n main

-- the frames, the last one pushed first
unfoldable pub stack_of : List Frame → List FrameT
stack_of xs = reverse (map frame xs)
