-- Devices that stand for a past, as their ports are asked and given words.
use Rattle.std.proofs.Common.{◌≡◌, ℕ, ◌<◌, ◌≤◌, ◌+◌, ◌*◌, ◌%◌, ◌^◌, arith, refl, sym, ◌∙◌, ap, Bool, true, false, cond, eqb, leb, List, ◌∷◌}
use Rattle.std.proofs.lemmas.Bool.{and_parts, leb-true}
use Rattle.std.proofs.lemmas.Nat.{mul-mod_first}
use Rattle.std.proofs.lemmas.Grind.{pow_more}
use Rattle.std.proofs.Math.Nat.{mul_comm, mul_assoc, pow-zero}
use Rattle.run_files.specs.Script.{Script}
use Rattle.port_history.specs.Past.{Happening, Asked, Told}
use Rattle.port_bus.specs.Random.{is_seed, seed, reads, random_after, asked_random}
use Rattle.port_bus.specs.Answers.{answer_of, small_answer}
use Rattle.port_bus.specs.State.{Facts, State}
use Rattle.port_bus.specs.Stand.{DevicesStand}

next_power : (b s p m : ℕ) → (b * (s * p % m)) % m ≡ (s * (p * b)) % m
next_power b s p m = rw (mul_comm b (s * p % m)) (mul-mod_first (s * p) b m ∙ ap (λ x. x % m) (mul_assoc s p b))

pub random_next : (s j : ℕ) → (48271 * random_after s j) % 2147483647 ≡ random_after s (j + 1)
unfolding random_after
random_next s j = rw (pow_more 48271 j) (next_power 48271 s (48271 ^ j) 2147483647)

pub random_first : (s : ℕ) → s < 2147483647 → random_after s 0 ≡ s
unfolding random_after
random_first s h = rw (pow-zero 48271) (omega arith)

-- ---- a port is asked

moved : (port random s j : ℕ) (b : Bool) → eqb port 0x100 ≡ b → random ≡ random_after s j
    → cond b ((48271 * random) % 2147483647) random ≡ random_after s (cond b (1 + j) j)
moved port random s j true e is = ap (λ (x : ℕ). (48271 * x) % 2147483647) is ∙ random_next s j ∙ ap (random_after s) (omega arith)
moved port random s j false e is = is

pub stands_asked : (script : Script) (facts : Facts) (past : List Happening) (s : State) (port random : ℕ) → random ≡ asked_random port s.random
    → DevicesStand script facts past s → DevicesStand script facts (Asked port ∷ past) (record s { random = random })
stands_asked script facts past s port random e h = record {
  script_is = h.script_is;
  facts_are = h.facts_are;
  frames_are = h.frames_are;
  random_is = e ∙ moved port s.random (seed past) (reads past) (eqb port 0x100) refl h.random_is;
  selected_is = h.selected_is;
}

-- only the random port's answer is by the random value
by_random : (script : Script) (facts : Facts) (frames selected x y cycles port : ℕ) (b : Bool) → eqb port 0x100 ≡ b → (b ≡ true → x ≡ y)
    → answer_of script facts frames selected x cycles port ≡ answer_of script facts frames selected y cycles port
unfolding answer_of
by_random script facts frames selected x y cycles port true e same = ap (λ (z : ℕ). answer_of script facts frames selected z cycles port) (same refl)
by_random script facts frames selected x y cycles port false e same = rw e refl

random_asked : (script : Script) (facts : Facts) (past : List Happening) (s : State) (port : ℕ) → DevicesStand script facts past s → eqb port 0x100 ≡ true
    → asked_random port s.random ≡ random_after (seed past) (reads past + 1)
random_asked script facts past s port h e = rw e (ap (λ (x : ℕ). (48271 * x) % 2147483647) h.random_is ∙ random_next (seed past) (reads past))

pub answers : (script : Script) (facts : Facts) (past : List Happening) (s : State) (cycles port number random : ℕ) → number ≡ port → random ≡ asked_random port s.random
    → DevicesStand script facts past s → answer_of s.script s.facts s.frames s.selected random cycles number ≡ small_answer script facts past cycles port
answers script facts past s cycles port number random same e h =
    ap (λ (n : ℕ). answer_of s.script s.facts s.frames s.selected random cycles n) same
    ∙ ap (λ (x : ℕ). answer_of s.script s.facts s.frames s.selected x cycles port) e
    ∙ by_random s.script s.facts s.frames s.selected (asked_random port s.random) (random_after (seed past) (reads past + 1)) cycles port (eqb port 0x100) refl
    (random_asked script facts past s port h)
    ∙ rw (h.script_is, h.facts_are, h.frames_are, h.selected_is) refl

-- ---- a port is given a word

pub stands_seeded : (script : Script) (facts : Facts) (past : List Happening) (s : State) (port word : ℕ) → port ≡ 0x100 → is_seed word ≡ true
    → DevicesStand script facts past s → DevicesStand script facts (Told port word ∷ past) (record s { random = word })
stands_seeded script facts past s port word e accepted h =
    let both : (leb 1 word ≡ true) × (leb word 2147483646 ≡ true) = and_parts _ _ accepted in
    let most : word ≤ 2147483646 = leb-true word 2147483646 both.1 in
    rw e (record {
      script_is = h.script_is;
      facts_are = h.facts_are;
      frames_are = h.frames_are;
      random_is = rw accepted (sym (random_first word (omega arith)));
      selected_is = h.selected_is;
    })
