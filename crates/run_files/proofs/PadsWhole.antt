-- A pads file that is read is what its lines tell, and what its lines tell is read.
use Rattle.std.proofs.Common.{◌≡◌, ℕ, ◌+◌, ◌≤◌, Bool, true, false, leb, List, [], ◌∷◌, ◌++◌, refl, sym, ap, subst, ◌∙◌, append_assoc, append-nil}
use Rattle.std.specs.Prelude.{Option, Some, None, Result, Ok, Err, IfOk}
use Rattle.std.specs.List.{AllZip}
use Rattle.std.proofs.lemmas.Bool.{leb-true, le-leb}
use Rattle.line_text.specs.Lines.{lines_of}
use Rattle.line_text.specs.Reading.{Reading, read_from, after}
use Rattle.run_files.specs.declared.pads.PadEvent.{PadEvent}
use Rattle.run_files.specs.Script.{Script, NeverFall}
use Rattle.run_files.specs.PadsText.{EventLine, IsHeaderLine, IsEventLine, header_of, event_of}
use Rattle.run_files.specs.PadsReading.{control_of, last_frame, with_event, event_step, said_step, header_step, read_on, pads_step, complete, pads_of}
use Rattle.run_files.specs.declared.pads.PadsErr.{PadsErr}
use Rattle.run_files.specs.PadsAnswer.{ReadsPads}
use Rattle.run_files.specs.PadsFile.{TellsEvent, IsPadsFile}
use Rattle.run_files.proofs.PadLines.{header_is, is_header, event_is, is_event}

abbrev made : EventLine → ℕ → PadEvent
made e control = record { frame = e.frame; pad = e.pad; control = control; down = e.down }

abbrev fine : Script → Reading Script
fine s = Ok s

abbrev go : ℕ → List (List ℕ) → Option Script → Reading (Option Script)
go n lines o = read_from pads_step n o lines

last_frame-push : (frame : ℕ) (es : List PadEvent) (e : PadEvent) → last_frame frame (es ++ e ∷ []) ≡ e.frame
last_frame-push frame [] e = refl
last_frame-push frame (x ∷ xs) e = last_frame-push x.frame xs e

-- ---- what is read

pub record Goes (s t : Script) (lines : List (List ℕ)) : Type 0 where
  pub events : List PadEvent
  pub told : AllZip (TellsEvent s.connected) lines events
  pub order : NeverFall (last_frame 0 s.events) events
  pub is : record s { events = s.events ++ events } ≡ t

abbrev Rest : List (List ℕ) → Script → ℕ → Type 0
Rest lines t n = (s : Script) → complete (go n lines (Some s)) ≡ Ok t → Goes s t lines

one_more : (s t : Script) (line : List ℕ) (lines : List (List ℕ)) (e : EventLine) (control : ℕ) → IsEventLine s.connected line e → control_of e.name ≡ Some control
    → last_frame 0 s.events ≤ e.frame → Goes (with_event s (made e control)) t lines → Goes s t (line ∷ lines)
one_more s t line lines e control is named order goes = record {
  events = made e control ∷ goes.events;
  told = (record { name = e.name; line_is = is; control_is = named }, goes.told);
  order = (order, subst (λ (n : ℕ). NeverFall n goes.events) (last_frame-push 0 s.events (made e control)) goes.order);
  is = ap (λ (es : List PadEvent). record s { events = es }) (sym (append_assoc s.events (made e control ∷ []) goes.events)) ∙ goes.is;
}

by_step : (s t : Script) (line : List ℕ) (lines : List (List ℕ)) (n : ℕ) (e : EventLine) (o : Option ℕ) (b : Bool) → IsEventLine s.connected line e
    → control_of e.name ≡ o → leb (last_frame 0 s.events) e.frame ≡ b → Rest lines t (n + 1)
    → complete (after n (read_on (event_step s e o b)) (λ o'. go (n + 1) lines o')) ≡ Ok t → Goes s t (line ∷ lines)
by_step s t line lines n e (Some control) true is named order rest h = one_more s t line lines e control is named (leb-true _ _ order) (rest (with_event s (made e control)) h)
by_step s t line lines n e (Some control) false is named order rest h = absurd cc
by_step s t line lines n e None true is named order rest h = absurd cc
by_step s t line lines n e None false is named order rest h = absurd cc

goes_on : (lines : List (List ℕ)) (t : Script) (n : ℕ) → Rest lines t n
unfolding read_from
goes_on [] t n s h = record { events = []; told = tt; order = tt; is = (let same : s ≡ t = cc in ap (λ (es : List PadEvent). record s { events = es }) (append-nil s.events) ∙ same) }
goes_on (line ∷ lines) t n s h = elim (event_of s.connected line) as (λ o. event_of s.connected line ≡ o
    → complete (after n (read_on (said_step s o)) (λ o'. go (n + 1) lines o')) ≡ Ok t → Goes s t (line ∷ lines)) [
      | None ↦ λ is k. absurd cc
      | Some e ↦ λ is k. by_step s t line lines n e (control_of e.name) (leb (last_frame 0 s.events) e.frame) (event_is s.connected line e is) refl refl (goes_on lines t (n + 1)) k
    ] refl h

abbrev plain : Script → Script
plain s = record s { events = [] }

from_header : (bytes first : List ℕ) (others : List (List ℕ)) (s t : Script) → lines_of bytes ≡ first ∷ others → IsHeaderLine first s → Goes s t others → IsPadsFile bytes t
from_header bytes first others s t lines header goes =
    let none : s.events ≡ [] = header.events in
    let is : record s { events = goes.events } ≡ t = ap (λ (es : List PadEvent). record s { events = es ++ goes.events }) (sym none) ∙ goes.is in
    let bare : plain s ≡ s = ap (λ (es : List PadEvent). record s { events = es }) (sym none) in
    subst (IsPadsFile bytes) is (record {
      first = first;
      others = others;
      lines = lines;
      header = subst (IsHeaderLine first) (sym bare) header;
      events = goes.told;
      order = subst (λ (es : List PadEvent). NeverFall (last_frame 0 es) goes.events) none goes.order;
    })

found_in : (bytes : List ℕ) (lines : List (List ℕ)) (t : Script) → lines_of bytes ≡ lines → complete (go 1 lines None) ≡ Ok t → IsPadsFile bytes t
unfolding read_from
found_in bytes [] t is h = absurd cc
found_in bytes (first ∷ others) t is h = elim (header_of first) as (λ o. header_of first ≡ o
    → complete (after 1 (header_step o) (λ o'. go 2 others o')) ≡ Ok t → IsPadsFile bytes t) [
      | None ↦ λ e k. absurd cc
      | Some s ↦ λ e k. from_header bytes first others s t is (header_is first s e) (goes_on others t 2 s k)
    ] refl h

pub found : (bytes : List ℕ) (s : Script) → pads_of bytes ≡ Ok s → IsPadsFile bytes s
unfolding pads_of
found bytes s h = found_in bytes (lines_of bytes) s refl h

-- ---- what the lines tell

back : (lines : List (List ℕ)) (n : ℕ) (s : Script) (es : List PadEvent) → AllZip (TellsEvent s.connected) lines es → NeverFall (last_frame 0 s.events) es
    → complete (go n lines (Some s)) ≡ Ok (record s { events = s.events ++ es })
unfolding read_from
back [] n s [] told order = ap (λ (xs : List PadEvent). fine (record s { events = xs })) (sym (append-nil s.events))
back [] n s (e ∷ es) told order = absurd told
back (line ∷ lines) n s [] told order = absurd told
back (line ∷ lines) n s (e ∷ es) told order =
    let line_of : EventLine = record { frame = e.frame; pad = e.pad; down = e.down; name = told.0.name } in
    let said : event_of s.connected line ≡ Some line_of = is_event s.connected line line_of told.0.line_is in
    let named : control_of told.0.name ≡ Some e.control = told.0.control_is in
    let in_order : leb (last_frame 0 s.events) e.frame ≡ true = le-leb _ _ order.0 in
    rw (said, named, in_order)
    (back lines (n + 1) (with_event s e) es told.1 (subst (λ (k : ℕ). NeverFall k es) (sym (last_frame-push 0 s.events e)) order.1)
    ∙ ap (λ (xs : List PadEvent). fine (record s { events = xs })) (append_assoc s.events (e ∷ []) es))

pub only : (bytes : List ℕ) (s : Script) → IsPadsFile bytes s → pads_of bytes ≡ Ok s
unfolding pads_of read_from
only bytes s is =
    let header : header_of is.first ≡ Some (plain s) = is_header is.first (plain s) is.header in
    ap (λ (ls : List (List ℕ)). complete (go 1 ls None)) is.lines ∙ rw header (back is.others 2 (plain s) s.events is.events is.order)

pub is_found : (bytes : List ℕ) (r : Result Script PadsErr) → ReadsPads r (pads_of bytes) → IfOk r (λ s. IsPadsFile bytes s)
is_found bytes (Ok s) given = found bytes s given
is_found bytes (Err e) given = tt
