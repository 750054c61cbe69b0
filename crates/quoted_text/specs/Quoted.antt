-- Texts and characters, byte by byte: where one is behind the first quote, and what a byte does there.
use Rattle.std.specs.Prelude.{ℕ, ◌+◌, ◌*◌, List, [], ◌∷◌, ◌==◌, ◌&&◌, nat_lt, if◌then◌else◌, Option, Some, None}
use Rattle.std.specs.Char.{is_ascii_hexdigit}
use Rattle.kit_base.specs.Digits.{digit_value}
use Rattle.quoted_text.specs.declared.quoted.Within.{Within}
use Rattle.quoted_text.specs.declared.quoted.Within.TheVariants as w
use Rattle.quoted_text.specs.declared.quoted.Turn.{Turn}
use Rattle.quoted_text.specs.declared.quoted.Turn.TheVariants as t

-- what stands behind a backslash: n, t, r, 0, a backslash or either quote
unfoldable pub escaped : ℕ → Option ℕ
escaped b =
    if b == 110 then Some 10
    else (if b == 116 then Some 9
    else (if b == 114 then Some 13
    else (if b == 48 then Some 0
    else (if b == 92 then Some 92
    else (if b == 39 then Some 39
    else (if b == 34 then Some 34
    else None))))))

-- or x with two hexadecimal digits
abbrev pub escape_turn : ℕ → Option ℕ → Turn
escape_turn b (Some given) = t.Gives given
escape_turn b None = if b == 120 then t.Goes w.High else t.Fails

-- the same quote ends it, an LF fails it, a byte that begins no escape stands for itself
unfoldable pub turn_of : ℕ → Within → ℕ → Turn
turn_of quote w.Plain b = if b == quote then t.Ends else (if b == 10 then t.Fails else (if b == 92 then t.Goes w.Escape else t.Gives b))
turn_of quote w.Escape b = escape_turn b (escaped b)
turn_of quote w.High b = if is_ascii_hexdigit b then t.Goes (w.Low (digit_value b)) else t.Fails
turn_of quote (w.Low high) b = if nat_lt high 16 && is_ascii_hexdigit b then t.Gives (high * 16 + digit_value b) else t.Fails

-- the bytes that it stands for, and what stands after its end
abbrev pub Content : Type 0
Content = Option (List ℕ × List ℕ)

abbrev pub front : ℕ → Content → Content
front b None = None
front b (Some r) = Some (b ∷ r.0, r.1)

abbrev pub by_turn : Turn → List ℕ → (Within → Content) → Content
by_turn t.Ends after more = Some ([], after)
by_turn t.Fails after more = None
by_turn (t.Goes s) after more = more s
by_turn (t.Gives b) after more = front b (more w.Plain)

unfoldable pub quoted_at : ℕ → Within → List ℕ → Content
quoted_at quote s [] = None
quoted_at quote s (b ∷ bs) = by_turn (turn_of quote s b) bs (λ s'. quoted_at quote s' bs)
