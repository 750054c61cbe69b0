-- A whole file is a front with no byte after it.
use Rattle.std.proofs.Common.{◌≡◌, ℕ, List, [], length, drop, refl, ap, arith}
use Rattle.std.specs.Prelude.{Ok}
use Rattle.std.proofs.lemmas.Bool.{le-ltb}
use Rattle.std.proofs.lemmas.List.{nil_from_length, length-drop}
use Rattle.asset_pack.specs.declared.kind.Kind.{Kind}
use Rattle.asset_pack.specs.declared.kind.Kind.TheVariants as kinds
use Rattle.asset_pack.specs.Texts.{Image}
use Rattle.asset_pack.specs.Tests.{size, front_fault, file_fault}
use Rattle.asset_pack.specs.Reading.{unless, body, words_at, words_in, texture_of, texture_at, texture_in}
use Rattle.asset_pack.proofs.Accepted.{whole}
use Rattle.asset_pack.proofs.Fronts.{unless_ok}

front_of : {A : Type 0} (kind : Kind) (bytes : List ℕ) (x y : A) → unless (file_fault kind bytes) x ≡ Ok y → unless {A = A × List ℕ} (front_fault kind bytes) (x, drop (size kind bytes) bytes) ≡ Ok (y, [])
front_of {A = A} kind bytes x y e =
    let u = unless_ok (file_fault kind bytes) x y e in
    let w = whole kind bytes u.0 in
    let none : drop (size kind bytes) bytes ≡ [] = nil_from_length (drop (size kind bytes) bytes) (omega (arith, w.1, length-drop (size kind bytes) bytes)) in
    rw (w.0, none, u.1) refl

whole_of : {A : Type 0} (kind : Kind) (bytes : List ℕ) (x y : A) → unless {A = A × List ℕ} (front_fault kind bytes) (x, drop (size kind bytes) bytes) ≡ Ok (y, []) → unless (file_fault kind bytes) x ≡ Ok y
unfolding file_fault
whole_of {A = A} kind bytes x y e =
    let u = unless_ok {A = A × List ℕ} (front_fault kind bytes) (x, drop (size kind bytes) bytes) (y, []) e in
    let is : x ≡ y = ap (λ (p : A × List ℕ). p.0) u.1 in
    let none : drop (size kind bytes) bytes ≡ [] = ap (λ (p : A × List ℕ). p.1) u.1 in
    let len : length (drop (size kind bytes) bytes) ≡ 0 = ap length none in
    rw (u.0, le-ltb (size kind bytes) (length bytes) (omega (arith, len, length-drop (size kind bytes) bytes)), is) refl

pub words_front_of : (kind : Kind) (bytes ws : List ℕ) → words_in kind bytes ≡ Ok ws → words_at kind bytes ≡ Ok (ws, [])
unfolding words_at words_in
words_front_of kind bytes ws e = front_of kind bytes (body kind bytes) ws e

pub words_whole_of : (kind : Kind) (bytes ws : List ℕ) → words_at kind bytes ≡ Ok (ws, []) → words_in kind bytes ≡ Ok ws
unfolding words_at words_in
words_whole_of kind bytes ws e = whole_of kind bytes (body kind bytes) ws e

pub texture_front_of : (bytes : List ℕ) (t : Image) → texture_in bytes ≡ Ok t → texture_at bytes ≡ Ok (t, [])
unfolding texture_at texture_in
texture_front_of bytes t e = front_of kinds.Texture bytes (texture_of bytes) t e

pub texture_whole_of : (bytes : List ℕ) (t : Image) → texture_at bytes ≡ Ok (t, []) → texture_in bytes ≡ Ok t
unfolding texture_at texture_in
texture_whole_of bytes t e = whole_of kinds.Texture bytes (texture_of bytes) t e
