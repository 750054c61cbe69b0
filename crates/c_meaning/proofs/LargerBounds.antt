-- A larger bound extends a run.
use Rattle.std.proofs.Common.{◌≡◌, ◌⊎◌, ℕ, suc, ◌+◌, arith, List, [], Option, refl, sym, subst, inl, inr}
use Rattle.c_types.specs.View.{tstmts}
use Rattle.c_types.specs.Programs.{ProgramT}
use Rattle.obj_mem.specs.declared.cell.Cell.TheVariants.{Unwritten}
use Rattle.obj_mem.specs.Worlds.{World, spend}
use Rattle.c_meaning.specs.declared.end.End.{End}
use Rattle.c_meaning.specs.declared.end.End.TheVariants.{Halted, Fault, Starved, Stray, Deep, OutOfBound}
use Rattle.c_meaning.specs.Outcomes.{Val, Value, Place, NoValue, Stops, Done, Goes, Breaks, Continues, Returns, Ended, nowhere}
use Rattle.c_meaning.specs.Setting.{setting}
use Rattle.c_meaning.specs.Statements.{below}
use Rattle.c_meaning.specs.Runs.{Final, final, main_done, main_called, inits_done, opening, final_of, ExtendsFrom, Extends, LargerBoundsExtend}
use Rattle.c_meaning.proofs.Later.{Begins, none, Kind, Later, Cut, same, stopped, through, val_events, done_events, val, done}
use Rattle.c_meaning.proofs.Bounds.{Up, up_one, call_later, does_all_later, below_later}

abbrev last : Kind Final
last = record { stop = final; seen = λ f. f.world.events; told = λ e w. refl }

main_each : (r : Val) → Later last (val_events r) (main_done r) (main_done r)
main_each (Value c w) = same last (final Halted w)
main_each (Place c w) = same last (final Halted w)
main_each (NoValue w) = same last (final Halted w)
main_each (Stops e w) = stopped last e w

inits_each : (go go' : World → Final) → ((w : World) → Later last w.events (go w) (go' w)) → (r : Done) → Later last (done_events r) (inits_done r go) (inits_done r go')
inits_each go go' h (Goes w) = h w
inits_each go go' h (Breaks w) = stopped last (Stray nowhere) w
inits_each go go' h (Continues w) = stopped last (Stray nowhere) w
inits_each go go' h (Returns c w) = stopped last (Stray nowhere) w
inits_each go go' h (Ended e w) = stopped last e w

module _ (p : ProgramT) (frames : List ℕ) (n n' : ℕ) (u : Up n n') where
  main_later : (w : World) → Later last w.events (main_called p frames n w) (main_called p frames n' w)
  main_later w = through val last main_done main_done (λ v. refl) main_each w.events _ _ (call_later (setting p frames) n n' u (below (setting p frames) n) (below (setting p frames) n') (below_later (setting p frames) n n' u) p.main [] nowhere (spend 1 w))

  pub final_later : (answers : List ℕ) (card : Option (List ℕ)) → Later last [] (final_of p frames n answers card) (final_of p frames n' answers card)
  final_later answers card = through done last (λ r. inits_done r (main_called p frames n)) (λ r. inits_done r (main_called p frames n')) (λ w. refl) (inits_each (main_called p frames n) (main_called p frames n') main_later) [] _ _ (does_all_later (setting p frames) n n' u (below (setting p frames) n) (below (setting p frames) n') (below_later (setting p frames) n n' u) Unwritten (tstmts p.inits) (opening p answers card))

same_extends : (e : End) (r r' : Final) → r' ≡ r → ExtendsFrom e r r'
same_extends Halted r r' h = h
same_extends (Fault k) r r' h = h
same_extends Starved r r' h = h
same_extends (Stray span) r r' h = h
same_extends (Deep span) r r' h = h
same_extends OutOfBound r r' h = subst (λ q. Begins r.world.events q.world.events) (sym h) (none r.world.events)

extends_from : (r r' : Final) → (r' ≡ r) ⊎ Cut last r r' → Extends r r'
extends_from r r' (inl h) = same_extends r.end r r' h
extends_from r r' (inr x) = subst (λ q. Extends q r') (sym x.1) x.2

pub larger : LargerBoundsExtend
larger p frames answers card n = subst (λ m. Extends (final_of p frames n answers card) (final_of p frames m answers card)) (sym (plus_one n)) (extends_from _ _ (final_later p frames n (suc n) (up_one n) answers card).1)
  where
    plus_one : (k : ℕ) → k + 1 ≡ suc k
    plus_one k = omega arith
