-- Scripts grow by one event.
use Rattle.std.proofs.Common.{◌≡◌, ℕ, zero, suc, ◌+◌, ◌-◌, ◌≤◌, List, [], ◌∷◌, ◌++◌, length, ◌⊎◌, inl, inr, subst, sym, ap, Some, slice_get, arith}
use Rattle.std.proofs.lemmas.List.Elements.{All-append, All-cons, All-nil}
use Rattle.run_files.specs.declared.pads.PadEvent.{PadEvent}
use Rattle.run_files.specs.Script.{Script, IsEvent, NeverFall, IsScript}
use Rattle.run_files.specs.PadsReading.{last_frame, with_event}

never_fall-push : (frame : ℕ) (es : List PadEvent) (e : PadEvent) → NeverFall frame es → last_frame frame es ≤ e.frame → NeverFall frame (es ++ e ∷ [])
never_fall-push frame [] e sorted later = (later, tt)
never_fall-push frame (x ∷ xs) e sorted later = (sorted.0, never_fall-push x.frame xs e sorted.1 later)

pub pushed : (s : Script) (e : PadEvent) → IsScript s → IsEvent s.connected e → last_frame 0 s.events ≤ e.frame → IsScript (with_event s e)
pushed s e is event later = record {
  time = is.time;
  connected = is.connected;
  events = All-append (IsEvent s.connected) s.events (e ∷ []) is.events (All-cons (IsEvent s.connected) e [] event (All-nil (IsEvent s.connected)));
  order = never_fall-push 0 s.events e is.order later;
}

-- with the event or without it
pub grown : (s : Script) (es : List PadEvent) (e : PadEvent) → IsScript s → IsEvent s.connected e → last_frame 0 s.events ≤ e.frame
    → (es ≡ s.events) ⊎ (es ≡ s.events ++ e ∷ []) → IsScript (record s { events = es })
grown s es e is event later (inl same) = subst (λ (xs : List PadEvent). IsScript (record s { events = xs })) (sym same) is
grown s es e is event later (inr more) = subst (λ (xs : List PadEvent). IsScript (record s { events = xs })) (sym more) (pushed s e is event later)

last_frame-at : (frame : ℕ) (es : List PadEvent) (i : ℕ) (e : PadEvent) → i + 1 ≡ length es → slice_get es i ≡ Some e → e.frame ≡ last_frame frame es
last_frame-at frame [] i e at read = absurd cc
last_frame-at frame (x ∷ []) zero e at read = let same : x ≡ e = cc in ap (λ (y : PadEvent). y.frame) (sym same)
last_frame-at frame (x ∷ []) (suc i) e at read = absurd (omega arith)
last_frame-at frame (x ∷ y ∷ ys) zero e at read = absurd (omega arith)
last_frame-at frame (x ∷ y ∷ ys) (suc i) e at read = last_frame-at x.frame (y ∷ ys) i e (omega arith) read

pub last_frame-last : (frame : ℕ) (es : List PadEvent) (e : PadEvent) → slice_get es (length es - 1) ≡ Some e → e.frame ≡ last_frame frame es
last_frame-last frame [] e read = absurd cc
last_frame-last frame (x ∷ xs) e read = last_frame-at frame (x ∷ xs) (length (x ∷ xs) - 1) e (omega arith) read
