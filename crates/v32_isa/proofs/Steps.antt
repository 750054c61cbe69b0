-- Steps and runs, as the crates above cite them.
use Rattle.std.proofs.Common.{ℕ, zero, suc, ◌+◌, ◌≤◌, ◌/◌, ◌%◌, ◌^◌, ◌≡◌, Option, Some, None, List, [], ◌∷◌, ◌++◌, length, option_to_list, refl, sym, subst, ◌∙◌, ap, arith, append_assoc, append-nil}
use Rattle.kit_base.specs.Word.{add, sub}
use Rattle.kit_base.specs.declared.event.Event.{Event}
use Rattle.kit_base.specs.declared.event.Event.TheVariants as event
use Rattle.v32_isa.specs.declared.instruction.Instr.{Instr}
use Rattle.v32_isa.specs.declared.stepped.Stepped.{Stepped}
use Rattle.v32_isa.specs.declared.stepped.Stepped.TheVariants as stepped
use Rattle.v32_isa.specs.Fields.{word_of, AreFields}
use Rattle.v32_isa.specs.Table.{Fits, row_of, flag_of, spelling}
use Rattle.v32_isa.specs.Decoding.{decoded}
use Rattle.v32_isa.specs.State.{State, sp, register_of, word_at, with_register, going_to}
use Rattle.v32_isa.specs.Machine.{Effect, act, effect_of, fetched}
use Rattle.v32_isa.specs.Machine.Effect.{Ends, Asks, Tells}
use Rattle.v32_isa.specs.Runs.{Run, ended, run, run_effect}
use Rattle.v32_isa.specs.Runs.End.{Halted, Fault, Starved, Undecodable}
use Rattle.v32_isa.specs.Calls.{Turn, turn_of, turn, goes_on, next_effect, stepped_on, Link, NestedOn, Nested}
use Rattle.v32_isa.specs.Calls.Turn.{Enters, Returns, Other}
use Rattle.v32_isa.proofs.Spellings.{row_fields}
use Rattle.v32_isa.proofs.Decoded.{begins-decoded}

-- these words can be read from an address on
abbrev pub HoldsWords : State → ℕ → List ℕ → Type 0
HoldsWords s address [] = Unit {0}
HoldsWords s address (word ∷ words) = (word_at s address ≡ Some word) × HoldsWords s (add address 1) words

flag_field : (o f a b m p : ℕ) → AreFields o f a b m p → word_of o f a b m p / 2 ^ 25 % 2 ≡ f
flag_field o f a b m p h = omega arith

effect_at : (s : State) (i : Instr ℕ) (first : ℕ) (immediate : Option ℕ) → first / 2 ^ 25 % 2 ≡ flag_of immediate →
    decoded first immediate ≡ Some i → HoldsWords s s.counter (first ∷ option_to_list immediate) →
    effect_of s ≡ act i (add s.counter (length (first ∷ option_to_list immediate))) s
unfolding effect_of fetched
effect_at s i first None flag e h = rw (h.0, flag, e) refl
effect_at s i first (Some j) flag e h = rw (h.0, flag, h.1.0, e) refl

-- where the words at the counter spell an instruction, the step is what that instruction does
pub effect-spelled : (s : State) (i : Instr ℕ) → Fits i → HoldsWords s s.counter (spelling i) →
    effect_of s ≡ act i (add s.counter (length (spelling i))) s
effect-spelled s i fits h =
    effect_at s i _ (row_of i).immediate (flag_field _ _ _ _ _ _ (row_fields i fits)) (begins-decoded _ (row_of i).immediate i (fits, ([], sym (append-nil (spelling i))))) h

turn_at : (s : State) (i : Instr ℕ) (first : ℕ) (immediate : Option ℕ) → first / 2 ^ 25 % 2 ≡ flag_of immediate →
    decoded first immediate ≡ Some i → HoldsWords s s.counter (first ∷ option_to_list immediate) →
    turn s ≡ turn_of i (add s.counter (length (first ∷ option_to_list immediate))) s
unfolding turn fetched
turn_at s i first None flag e h = rw (h.0, flag, e) refl
turn_at s i first (Some j) flag e h = rw (h.0, flag, h.1.0, e) refl

-- and its kind is that of the instruction
pub turn-spelled : (s : State) (i : Instr ℕ) → Fits i → HoldsWords s s.counter (spelling i) →
    turn s ≡ turn_of i (add s.counter (length (spelling i))) s
turn-spelled s i fits h =
    turn_at s i _ (row_of i).immediate (flag_field _ _ _ _ _ _ (row_fields i fits)) (begins-decoded _ (row_of i).immediate i (fits, ([], sym (append-nil (spelling i))))) h

pub effect-unreadable : (s : State) → word_at s s.counter ≡ None → effect_of s ≡ Ends (stepped.Fault 0) s
unfolding effect_of fetched
effect-unreadable s e = rw e refl

-- a run with events before it
abbrev pub before : List Event → Run → Run
before events r = record r { events = events ++ r.events }

-- So many steps bring a state with these answers left, by these events, to a state with those answers left: what runs on from there is what runs from the
-- start. Where `ins` are the innermost calls in progress before and `outs` after, nested steps from there are nested from the start.
pub record Moves (ins outs : List Link) (steps : ℕ) (s : State) (answers : List ℕ) (events : List Event) (t : State) (left : List ℕ) : Type 0 where
  pub runs : (n : ℕ) → run (steps + n) s answers ≡ before events (run n t left)
  pub nests : (ls : List Link) (n : ℕ) → Nested n (outs ++ ls) t left → Nested (steps + n) (ins ++ ls) s answers

-- the same where the calls in progress are those of before
abbrev pub Reaches : ℕ → State → List ℕ → List Event → State → List ℕ → Type 0
Reaches steps s answers events t left = Moves [] [] steps s answers events t left

pub reaches_here : (s : State) (answers : List ℕ) → Reaches 0 s answers [] s answers
reaches_here s answers = record {
  runs = λ n. ap (λ k. run k s answers) (let e : 0 + n ≡ n = omega arith in e);
  nests = λ ls n h. subst (λ k. Nested k ls s answers) (let e : n ≡ 0 + n = omega arith in e) h;
}

pub moves_on : (ks ls ms : List Link) (j k : ℕ) (s t u : State) (xs ys zs : List ℕ) (es fs : List Event) →
    Moves ks ls j s xs es t ys → Moves ls ms k t ys fs u zs → Moves ks ms (j + k) s xs (es ++ fs) u zs
moves_on ks ls ms j k s t u xs ys zs es fs p q = record {
  runs = λ n.
      let e : j + k + n ≡ j + (k + n) = omega arith in
      ap (λ m. run m s xs) e ∙ p.runs (k + n) ∙ ap (before es) (q.runs n) ∙ ap (λ events. record (run n u zs) { events = events }) (sym (append_assoc es fs (run n u zs).events));
  nests = λ ns n h.
      let e : j + (k + n) ≡ j + k + n = omega arith in
      subst (λ m. Nested m (ks ++ ns) s xs) e (p.nests ns (k + n) (q.nests ns n h));
}

pub reaches_on : (j k : ℕ) (s t u : State) (xs ys zs : List ℕ) (es fs : List Event) →
    Reaches j s xs es t ys → Reaches k t ys fs u zs → Reaches (j + k) s xs (es ++ fs) u zs
reaches_on j k s t u xs ys zs es fs p q = moves_on [] [] [] j k s t u xs ys zs es fs p q

-- what is done inside a call
pub reaches_in : (l : Link) (j : ℕ) (s t : State) (xs ys : List ℕ) (es : List Event) → Reaches j s xs es t ys → Moves (l ∷ []) (l ∷ []) j s xs es t ys
reaches_in l j s t xs ys es p = record { runs = p.runs; nests = λ ls n h. p.nests (l ∷ ls) n h }

pub run-suc : (n : ℕ) (s : State) (answers : List ℕ) → run (suc n) s answers ≡ run_effect (effect_of s) answers (run n)
unfolding run
run-suc n s answers = refl

nested-suc : (n : ℕ) (ls : List Link) (s : State) (answers : List ℕ) → Nested (suc n) ls s answers ≡ NestedOn (turn s) s ls (stepped_on s answers) (Nested n)
unfolding Nested
nested-suc n ls s answers = refl

one_more : (n : ℕ) (s : State) (answers : List ℕ) (e : Effect) → effect_of s ≡ e → run (1 + n) s answers ≡ run_effect e answers (run n)
one_more n s answers e h =
    let k : 1 + n ≡ suc n = omega arith in
    ap (λ m. run m s answers) k ∙ run-suc n s answers ∙ ap (λ x. run_effect x answers (run n)) h

-- one step that is neither a CALL nor a RET
nested_more : (n : ℕ) (ls : List Link) (s : State) (answers : List ℕ) (e : Effect) (k : Turn) → effect_of s ≡ e → turn s ≡ k → NestedOn k s ls (next_effect e answers) (Nested n) → Nested (1 + n) ls s answers
unfolding stepped_on
nested_more n ls s answers e k h i m =
    let j : suc n ≡ 1 + n = omega arith in
    subst (λ q. Nested q ls s answers) j (subst (λ T. T) (sym (nested-suc n ls s answers ∙ ap (λ q. NestedOn q s ls (next_effect (effect_of s) answers) (Nested n)) i ∙ ap (λ x. NestedOn k s ls (next_effect x answers) (Nested n)) h)) m)

pub reaches_went : (s t : State) (answers : List ℕ) → effect_of s ≡ Ends stepped.Went t → turn s ≡ Other → Reaches 1 s answers [] t answers
reaches_went s t answers e k = record { runs = λ n. one_more n s answers _ e; nests = λ ls n h. nested_more n ls s answers _ Other e k h }

pub reaches_waited : (s t : State) (answers : List ℕ) → effect_of s ≡ Ends stepped.Waited t → turn s ≡ Other → Reaches 1 s answers (event.Wait ∷ []) t answers
reaches_waited s t answers e k = record { runs = λ n. one_more n s answers _ e; nests = λ ls n h. nested_more n ls s answers _ Other e k h }

pub reaches_told : (s t : State) (port word next : ℕ) (answers : List ℕ) → effect_of s ≡ Tells port word next t → turn s ≡ Other →
    Reaches 1 s answers (event.Out port word ∷ []) (going_to next t) answers
reaches_told s t port word next answers e k = record { runs = λ n. one_more n s answers _ e; nests = λ ls n h. nested_more n ls s answers _ Other e k h }

pub reaches_asked : (s t : State) (register port next answer : ℕ) (answers : List ℕ) → effect_of s ≡ Asks register port next t → turn s ≡ Other →
    Reaches 1 s (answer ∷ answers) (event.In port answer ∷ []) (going_to next (with_register register answer t)) answers
reaches_asked s t register port next answer answers e k = record { runs = λ n. one_more n s (answer ∷ answers) _ e; nests = λ ls n h. nested_more n ls s (answer ∷ answers) _ Other e k h }

-- a CALL
pub moves_entered : (s t : State) (answers : List ℕ) (to back : ℕ) → effect_of s ≡ Ends stepped.Went t → turn s ≡ Enters to back →
    Moves [] (record { top = sub (register_of s sp) 1; back = back } ∷ []) 1 s answers [] t answers
moves_entered s t answers to back e k = record { runs = λ n. one_more n s answers _ e; nests = λ ls n h. nested_more n ls s answers _ (Enters to back) e k h }

-- a RET
pub moves_returned : (s t : State) (answers : List ℕ) (l : Link) → effect_of s ≡ Ends stepped.Went t → turn s ≡ Returns → register_of s sp ≡ l.top → word_at s l.top ≡ Some l.back →
    Moves (l ∷ []) [] 1 s answers [] t answers
moves_returned s t answers l e k top back = record { runs = λ n. one_more n s answers _ e; nests = λ ls n h. nested_more n (l ∷ ls) s answers _ Returns e k (top, back, h) }

-- a step that ends a run, whatever it is
nested_ended : (n : ℕ) (ls : List Link) (s : State) (answers : List ℕ) → stepped_on s answers ≡ None → Nested (suc n) ls s answers
nested_ended n ls s answers e = subst (λ T. T) (sym (nested-suc n ls s answers ∙ ap (λ x. NestedOn (turn s) s ls x (Nested n)) e)) tt

pub nested_stopped : (n : ℕ) (ls : List Link) (s t : State) (answers : List ℕ) (how : Stepped) → effect_of s ≡ Ends how t → goes_on how t answers ≡ None → Nested (suc n) ls s answers
unfolding stepped_on
nested_stopped n ls s t answers how e k = nested_ended n ls s answers (ap (λ x. next_effect x answers) e ∙ k)

pub nested_starved : (n : ℕ) (ls : List Link) (s t : State) (register port next : ℕ) → effect_of s ≡ Asks register port next t → Nested (suc n) ls s []
unfolding stepped_on
nested_starved n ls s t register port next e = nested_ended n ls s [] (ap (λ x. next_effect x []) e)

pub nested_none : (ls : List Link) (s : State) (answers : List ℕ) → Nested 0 ls s answers
unfolding Nested
nested_none ls s answers = tt

-- nested runs are closed under fewer steps
fewer_on : (k : Turn) (s : State) (ls : List Link) (o : Option (State × List ℕ)) (go less : List Link → State → List ℕ → Type 0) → ((ls : List Link) (t : State) (xs : List ℕ) → go ls t xs → less ls t xs) → NestedOn k s ls o go → NestedOn k s ls o less
fewer_on k s ls None go less f h = tt
fewer_on (Enters to back) s ls (Some m) go less f h = f _ m.0 m.1 h
fewer_on Returns s [] (Some m) go less f h = h
fewer_on Returns s (l ∷ ls) (Some m) go less f h = (h.0, h.1, f ls m.0 m.1 h.2)
fewer_on Other s ls (Some m) go less f h = f ls m.0 m.1 h

pub nested_fewer : (m n : ℕ) (ls : List Link) (s : State) (answers : List ℕ) → m ≤ n → Nested n ls s answers → Nested m ls s answers
unfolding Nested
nested_fewer zero n ls s answers le h = tt
nested_fewer (suc m) zero ls s answers le h = absurd (omega arith)
nested_fewer (suc m) (suc n) ls s answers le h = fewer_on (turn s) s ls (stepped_on s answers) (Nested n) (Nested m) (λ ks t xs g. nested_fewer m n ks t xs (omega arith) g) h

-- the steps that end a run
pub run-halted : (n : ℕ) (s t : State) (answers : List ℕ) → effect_of s ≡ Ends stepped.Halted t → run (suc n) s answers ≡ ended Halted t
run-halted n s t answers e = run-suc n s answers ∙ ap (λ x. run_effect x answers (run n)) e

pub run-fault : (n : ℕ) (s t : State) (number : ℕ) (answers : List ℕ) → effect_of s ≡ Ends (stepped.Fault number) t → run (suc n) s answers ≡ ended (Fault number) t
run-fault n s t number answers e = run-suc n s answers ∙ ap (λ x. run_effect x answers (run n)) e

pub run-undecodable : (n : ℕ) (s t : State) (address : ℕ) (answers : List ℕ) → effect_of s ≡ Ends (stepped.Undecodable address) t → run (suc n) s answers ≡ ended (Undecodable address) t
run-undecodable n s t address answers e = run-suc n s answers ∙ ap (λ x. run_effect x answers (run n)) e

pub run-starved : (n : ℕ) (s t : State) (register port next : ℕ) → effect_of s ≡ Asks register port next t → run (suc n) s [] ≡ ended Starved t
run-starved n s t register port next e = run-suc n s [] ∙ ap (λ x. run_effect x [] (run n)) e
