-- The steps on a pads file's lines against their grammar.
use Rattle.std.proofs.Common.{◌≡◌, ℕ, ◌+◌, ◌<◌, ◌≤◌, Bool, true, false, cond, ltb, eqb, ◌||◌, not, List, [], ◌∷◌, ◌++◌, length, take, drop, get_or, refl, sym, ap, subst, ◌∙◌, append_assoc, Option, Some, None, option_map, codes, bytes_eq, arith}
use Rattle.std.specs.List.{list_all, prefix_len, take_while}
use Rattle.std.proofs.lemmas.Bool.{leb-true, le-leb, and_parts, and_from, eqb-true, lt-ltb, ltb-true}
use Rattle.std.proofs.lemmas.List.{take_at, drop_at, length-append}
use Rattle.std.proofs.lemmas.List.Sums.{split_at_first, passes_at_first, take_while-cons}
use Rattle.std.proofs.lemmas.Option.{option_and_then_some}
use Rattle.std.proofs.lemmas.Slice.Eq.{bytes_eq-Decides}
use Rattle.line_text.specs.Fields.{is_space, field_at}
use Rattle.line_text.specs.Numbers.{is_digit, decimal_word}
use Rattle.run_files.specs.declared.pads.PadEvent.{PadEvent}
use Rattle.run_files.specs.Script.{Script}
use Rattle.run_files.specs.PadsText.{EventLine, spaced, action_word, is_one_field, IsHeaderLine, IsEventLine, header_of, action_of, event_of, checked_header, checked_event}

abbrev passes : ℕ → Bool
passes b = not (is_space b)

-- ---- fields

place : (a b : List ℕ) → is_one_field a ≡ true → prefix_len passes (a ++ 32 ∷ b) ≡ length a
place [] b h = refl
place (x ∷ xs) b h =
    let both : (passes x ≡ true) × (is_one_field xs ≡ true) = and_parts _ _ h in
    let rest : prefix_len passes (xs ++ 32 ∷ b) ≡ length xs = place xs b both.1 in
    rw (both.0, rest) (omega arith)

behind : (a b : List ℕ) → drop (length a + 1) (a ++ 32 ∷ b) ≡ b
behind a b = ap (drop (length a + 1)) (sym (append_assoc a (32 ∷ []) b)) ∙ drop_at (a ++ 32 ∷ []) b (length a + 1) (length-append a (32 ∷ []))

pub field_back : (a b : List ℕ) → is_one_field a ≡ true → field_at (a ++ 32 ∷ b) ≡ Some (a, b)
unfolding field_at
field_back a b h =
    let within : ltb (length a) (length (a ++ 32 ∷ b)) ≡ true = lt-ltb _ _ (omega (arith, length-append a (32 ∷ b))) in
    rw (place a b h, within, take_at a (32 ∷ b) (length a) refl, behind a b) refl

before : (text : List ℕ) → list_all passes (take_while passes text) ≡ true
before [] = refl
before (x ∷ xs) = ap (list_all passes) (take_while-cons passes x xs) ∙ elim (passes x) as (λ t. passes x ≡ t → list_all passes (cond t (x ∷ take_while passes xs) []) ≡ true) [
  | true ↦ λ is. and_from (passes x) _ is (before xs)
  | false ↦ λ is. refl
] refl

abbrev Parts : List ℕ → List ℕ × List ℕ → Type 0
Parts text x = (text ≡ x.0 ++ 32 ∷ x.1) × (is_one_field x.0 ≡ true)

pub field_parts : (text : List ℕ) (x : List ℕ × List ℕ) → field_at text ≡ Some x → Parts text x
unfolding field_at
field_parts text x e = elim (ltb (prefix_len passes text) (length text)) as (λ t. ltb (prefix_len passes text) (length text) ≡ t
    → option_map (λ (at : ℕ). (take at text, drop (at + 1) text)) (cond t (Some (prefix_len passes text)) None) ≡ Some x → Parts text x) [
      | true ↦ λ is h.
          let within : prefix_len passes text < length text = ltb-true _ _ is in
          let same : (take (prefix_len passes text) text, drop (prefix_len passes text + 1) text) ≡ x = cc in
          let space : get_or text (prefix_len passes text) 0 ≡ 32 = eqb-true _ 32 (passes_at_first is_space text 0 within) in
          subst (Parts text) same (split_at_first is_space text 0 within ∙ ap (λ (b : ℕ). take (prefix_len passes text) text ++ b ∷ drop (prefix_len passes text + 1) text) space, before text)
      | false ↦ λ is h. absurd cc
    ] refl e

-- ---- numbers have no space

digit_passes : (b : ℕ) → is_digit b ≡ true → passes b ≡ true
digit_passes b h =
    let least : 48 ≤ b = leb-true 48 b (and_parts _ _ h).0 in
    elim (eqb b 32) as (λ t. eqb b 32 ≡ t → not t ≡ true) [
      | true ↦ λ e. let same : b ≡ 32 = eqb-true b 32 e in absurd (omega arith)
      | false ↦ λ e. refl
    ] refl

digits_pass : (text : List ℕ) → list_all is_digit text ≡ true → is_one_field text ≡ true
digits_pass [] h = refl
digits_pass (b ∷ bs) h = let both = and_parts _ _ h in and_from (passes b) _ (digit_passes b both.0) (digits_pass bs both.1)

chosen : (a b c : Bool) (o : Option ℕ) (n : ℕ) → cond (a || (b || not c)) None o ≡ Some n → c ≡ true
chosen true b c o n h = absurd cc
chosen false true c o n h = absurd cc
chosen false false true o n h = refl
chosen false false false o n h = absurd cc

number_passes : (text : List ℕ) (n : ℕ) → decimal_word text ≡ Some n → is_one_field text ≡ true
unfolding decimal_word
number_passes text n h = digits_pass text (chosen _ _ _ _ n h)

-- ---- actions

pub action_is : (word : List ℕ) (d : Bool) → action_of word ≡ Some d → word ≡ action_word d
unfolding action_of
action_is word d e = elim (bytes_eq word (codes "press")) as (λ t. bytes_eq word (codes "press") ≡ t → cond t (Some true) (cond (bytes_eq word (codes "release")) (Some false) None) ≡ Some d → word ≡ action_word d) [
  | true ↦ λ is h. let same : true ≡ d = cc in (bytes_eq-Decides word (codes "press")).0 is ∙ ap action_word same
  | false ↦ λ is h. elim (bytes_eq word (codes "release")) as (λ t. bytes_eq word (codes "release") ≡ t → cond t (Some false) None ≡ Some d → word ≡ action_word d) [
    | true ↦ λ is2 h2. let same : false ≡ d = cc in (bytes_eq-Decides word (codes "release")).0 is2 ∙ ap action_word same
    | false ↦ λ is2 h2. absurd cc
  ] refl h
] refl e

action_back : (d : Bool) → action_of (action_word d) ≡ Some d
unfolding action_of
action_back true = refl
action_back false = refl

action_passes : (d : Bool) → is_one_field (action_word d) ≡ true
action_passes true = refl
action_passes false = refl

-- ---- lines

kept : {A : Type 0} (b : Bool) (x y : A) → cond b (Some x) None ≡ Some y → (b ≡ true) × (x ≡ y)
kept true x y h = (refl, cc)
kept false x y h = absurd cc

joined : (line a b c d e f : List ℕ) → line ≡ a ++ 32 ∷ b → b ≡ c ++ 32 ∷ d → d ≡ e ++ 32 ∷ f → line ≡ spaced a c e f
joined line a b c d e f one two three = one ∙ ap (λ (t : List ℕ). a ++ 32 ∷ t) (two ∙ ap (λ (t : List ℕ). c ++ 32 ∷ t) three)

event_made : (connected : ℕ) (line : List ℕ) (e : EventLine) (frame pad action : List ℕ × List ℕ) (f p : ℕ) (d : Bool)
    → field_at line ≡ Some frame → field_at frame.1 ≡ Some pad → field_at pad.1 ≡ Some action → decimal_word frame.0 ≡ Some f → decimal_word pad.0 ≡ Some p → action_of action.0 ≡ Some d
    → checked_event connected (record { frame = f; pad = p; down = d; name = action.1 }) ≡ Some e → IsEventLine connected line e
event_made connected line e frame pad action f p d in_frame in_pad in_action is_f is_p is_d h =
    let said : EventLine = record { frame = f; pad = p; down = d; name = action.1 } in
    let both = kept _ said e h in
    let tests = and_parts _ _ both.0 in
    let others = and_parts _ _ tests.1 in
    subst (IsEventLine connected line) both.1 (record {
      frame_text = frame.0;
      pad_text = pad.0;
      spelled = joined line frame.0 frame.1 pad.0 pad.1 (action_word d) action.1 (field_parts line frame in_frame).0 (field_parts frame.1 pad in_pad).0
          ((field_parts pad.1 action in_action).0 ∙ ap (λ (w : List ℕ). w ++ 32 ∷ action.1) (action_is action.0 d is_d));
      frame = is_f;
      pad = is_p;
      few = leb-true _ _ tests.0;
      of_a_pad = others.0;
      four = others.1;
    })

-- what an event's line says is so by the grammar
pub event_is : (connected : ℕ) (line : List ℕ) (e : EventLine) → event_of connected line ≡ Some e → IsEventLine connected line e
unfolding event_of
event_is connected line e h =
    option_and_then_some _ (field_at line) e h (λ frame in_frame h1.
    option_and_then_some _ (field_at frame.1) e h1 (λ pad in_pad h2.
    option_and_then_some _ (field_at pad.1) e h2 (λ action in_action h3.
    option_and_then_some _ (decimal_word frame.0) e h3 (λ f is_f h4.
    option_and_then_some _ (decimal_word pad.0) e h4 (λ p is_p h5.
    option_and_then_some _ (action_of action.0) e h5 (λ d is_d h6.
    event_made connected line e frame pad action f p d in_frame in_pad in_action is_f is_p is_d h6))))))

-- what the grammar gives an event's line is what it says
pub is_event : (connected : ℕ) (line : List ℕ) (e : EventLine) → IsEventLine connected line e → event_of connected line ≡ Some e
unfolding event_of
is_event connected line e x =
    ap (event_of connected) x.spelled
    ∙ rw (
      field_back x.frame_text _ (number_passes x.frame_text e.frame x.frame),
      field_back x.pad_text _ (number_passes x.pad_text e.pad x.pad),
      field_back (action_word e.down) e.name (action_passes e.down),
      x.frame,
      x.pad,
      action_back e.down,
      le-leb _ _ x.few,
      x.of_a_pad,
      x.four,
    ) refl

header_made : (line : List ℕ) (s : Script) (word date time : List ℕ × List ℕ) (d t m : ℕ)
    → field_at line ≡ Some word → field_at word.1 ≡ Some date → field_at date.1 ≡ Some time → decimal_word date.0 ≡ Some d → decimal_word time.0 ≡ Some t → decimal_word time.1 ≡ Some m
    → checked_header word.0 (record { date = d; time = t; connected = m; events = [] }) ≡ Some s → IsHeaderLine line s
header_made line s word date time d t m in_word in_date in_time is_d is_t is_m h =
    let said : Script = record { date = d; time = t; connected = m; events = [] } in
    let both = kept _ said s h in
    let tests = and_parts _ _ both.0 in
    let others = and_parts _ _ tests.1 in
    subst (IsHeaderLine line) both.1 (record {
      date_text = date.0;
      time_text = time.0;
      mask_text = time.1;
      spelled = joined line (codes "pads") word.1 date.0 date.1 time.0 time.1
          ((field_parts line word in_word).0 ∙ ap (λ (w : List ℕ). w ++ 32 ∷ word.1) ((bytes_eq-Decides word.0 (codes "pads")).0 tests.0))
          (field_parts word.1 date in_date).0 (field_parts date.1 time in_time).0;
      date = is_d;
      time = is_t;
      connected = is_m;
      of_a_day = leb-true _ _ others.0;
      of_four_pads = leb-true _ _ others.1;
      events = refl;
    })

-- what a header says is so by the grammar
pub header_is : (line : List ℕ) (s : Script) → header_of line ≡ Some s → IsHeaderLine line s
unfolding header_of
header_is line s h =
    option_and_then_some _ (field_at line) s h (λ word in_word h1.
    option_and_then_some _ (field_at word.1) s h1 (λ date in_date h2.
    option_and_then_some _ (field_at date.1) s h2 (λ time in_time h3.
    option_and_then_some _ (decimal_word date.0) s h3 (λ d is_d h4.
    option_and_then_some _ (decimal_word time.0) s h4 (λ t is_t h5.
    option_and_then_some _ (decimal_word time.1) s h5 (λ m is_m h6.
    header_made line s word date time d t m in_word in_date in_time is_d is_t is_m h6))))))

some_script : (s : Script) (es : List PadEvent) → s.events ≡ es → Some (record s { events = es }) ≡ Some s
some_script s es e = ap (λ xs. Some (record s { events = xs })) (sym e)

-- what the grammar gives a header is what it says
pub is_header : (line : List ℕ) (s : Script) → IsHeaderLine line s → header_of line ≡ Some s
unfolding header_of
is_header line s x =
    ap header_of x.spelled
    ∙ rw (
      field_back (codes "pads") (x.date_text ++ 32 ∷ (x.time_text ++ 32 ∷ x.mask_text)) refl,
      field_back x.date_text _ (number_passes x.date_text s.date x.date),
      field_back x.time_text x.mask_text (number_passes x.time_text s.time x.time),
      x.date,
      x.time,
      x.connected,
      le-leb _ _ x.of_a_day,
      le-leb _ _ x.of_four_pads,
    )
    (some_script s [] x.events)
