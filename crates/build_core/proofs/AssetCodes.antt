-- The codes of textures and sounds.
use Rattle.std.proofs.Common.{ℕ, ◌≡◌, ◌≤◌, Bool, true, false, List, arith}
use Rattle.std.specs.Prelude.{Option, Some, None, Result, Ok, Err, IfErr, IfSome, if◌then◌else◌, nat_lt, bytes_eq, take, length, not}
use Rattle.kit_base.specs.declared.failure.Failure.{Failure}
use Rattle.kit_base.specs.declared.failure.Failure.TheVariants as failures
use Rattle.kit_base.specs.Gives.{Gives}
use Rattle.asset_pack.specs.declared.kind.Kind.{Kind}
use Rattle.asset_pack.specs.declared.kind.Kind.TheVariants as kinds
use Rattle.asset_pack.specs.declared.error.AssetFault.{AssetFault}
use Rattle.asset_pack.specs.Texts.{Image}
use Rattle.asset_pack.specs.Tests.{front_fault, file_fault, or_trailing, signature, head, in_range, size}
use Rattle.asset_pack.specs.Reading.{unless, texture_in, texture_of, words_in, body}
use Rattle.build_core.specs.Causes.{IsTested, IsOfTesting}

abbrev at : ℕ → Option AssetFault
at n = Some (record { code = n })

code_is : (n : ℕ) → 70 ≤ n → n ≤ 73 → IfSome (at n) IsTested
code_is n h k = (h, k)

-- the tests in their order
of_tests : (a b c d e : Bool) → IfSome (if a then at 71 else (if b then at 70 else (if c then at 71 else (if d then at 72 else (if e then at 71 else None))))) IsTested
of_tests true b c d e = code_is 71 (omega arith) (omega arith)
of_tests false true c d e = code_is 70 (omega arith) (omega arith)
of_tests false false true d e = code_is 71 (omega arith) (omega arith)
of_tests false false false true e = code_is 72 (omega arith) (omega arith)
of_tests false false false false true = code_is 71 (omega arith) (omega arith)
of_tests false false false false false = tt

of_front : (kind : Kind) (bytes : List ℕ) → IfSome (front_fault kind bytes) IsTested
unfolding front_fault
of_front kind bytes =
    of_tests (nat_lt (length bytes) 8) (not (bytes_eq (take 8 bytes) (signature kind))) (nat_lt (length bytes) (head kind)) (not (in_range kind bytes)) (nat_lt (length bytes) (size kind bytes))

behind : (o : Option AssetFault) (b : Bool) → IfSome o IsTested → IfSome (or_trailing o b) IsTested
behind (Some e) b h = h
behind None true h = code_is 73 (omega arith) (omega arith)
behind None false h = tt

of_file : (kind : Kind) (bytes : List ℕ) → IfSome (file_fault kind bytes) IsTested
unfolding file_fault
of_file kind bytes = behind (front_fault kind bytes) _ (of_front kind bytes)

of_answer : {A : Type 0} (o : Option AssetFault) (x : A) (e : AssetFault) → IfSome o IsTested → unless o x ≡ Err e → IsTested e
of_answer None x e h k = absurd cc
of_answer (Some d) x e h k = let same : d ≡ e = cc in rw (← same) h

by_gives : {X : Type 0} (r : Result X (Failure AssetFault)) (o : Option AssetFault) (x : X) → IfSome o IsTested → Gives (λ y. y) r (unless o x) → IfErr r IsOfTesting
by_gives (Ok y) o x h k = tt
by_gives (Err failures.Memory) o x h k = tt
by_gives (Err (failures.Cause fault)) o x h k = of_answer o x fault h k

pub texture_codes : (r : Result Image (Failure AssetFault)) (bytes : List ℕ) → Gives (λ t. t) r (texture_in bytes) → IfErr r IsOfTesting
unfolding texture_in
texture_codes r bytes h = by_gives r (file_fault kinds.Texture bytes) (texture_of bytes) (of_file kinds.Texture bytes) h

pub sound_codes : (r : Result (List ℕ) (Failure AssetFault)) (bytes : List ℕ) → Gives (λ s. s) r (words_in kinds.Sound bytes) → IfErr r IsOfTesting
unfolding words_in
sound_codes r bytes h = by_gives r (file_fault kinds.Sound bytes) (body kinds.Sound bytes) (of_file kinds.Sound bytes) h
