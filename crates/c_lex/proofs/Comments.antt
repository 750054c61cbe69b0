-- The gaps are those of the grammar.
use Rattle.std.proofs.Common.{◌≡◌, ℕ, ◌<◌, ◌+◌, Bool, true, false, cond, eqb, ◌&&◌, List, [], ◌∷◌, ◌++◌, length, drop, refl, sym, ap, subst, ◌∙◌, arith}
use Rattle.std.specs.Prelude.{Option, Some, None, option_map}
use Rattle.std.specs.List.{take_while}
use Rattle.std.proofs.lemmas.Bool.{eqb-true}
use Rattle.std.proofs.lemmas.List.{nil_from_length, length-append}
use Rattle.c_lex.specs.Bytes.{begins, is_blank}
use Rattle.c_lex.specs.Gaps.{splice_len, closes, close_at, closed_len, comment_len, gap_len}
use Rattle.c_lex.specs.Grammar.{is_no_lf, IsGap, blank, splice, long_splice, line, block, BeginsGap}
use Rattle.c_lex.proofs.Stands.{some_is, both}
use Rattle.c_lex.proofs.Words.{run_of, run_taken}

head_is : {x y : ℕ} {a b : List ℕ} → x ∷ a ≡ y ∷ b → x ≡ y
head_is e = cc

tail_is : {x y : ℕ} {a b : List ℕ} → x ∷ a ≡ y ∷ b → a ≡ b
tail_is e = cc

abbrev IsFirst : List ℕ → Type 0
IsFirst inner = (before after : List ℕ) → inner ++ 42 ∷ 47 ∷ [] ≡ before ++ 42 ∷ 47 ∷ after → after ≡ []

-- up to and with the next end of a comment
record Closed (bytes : List ℕ) (n : ℕ) : Type 0 where
  inner : List ℕ
  rest : List ℕ
  whole : bytes ≡ (inner ++ 42 ∷ 47 ∷ []) ++ rest
  size : length (inner ++ 42 ∷ 47 ∷ []) ≡ n
  first : IsFirst inner

first_nil : IsFirst []
first_nil before after e = let size = ap length e in nil_from_length after (omega (arith, length-append before (42 ∷ 47 ∷ after)))

closes_is : (bytes : List ℕ) → closes bytes ≡ true → (rest : List ℕ) × (bytes ≡ 42 ∷ 47 ∷ rest)
closes_is [] e = absurd cc
closes_is (b ∷ []) e = let h = both (eqb b 42) false e in absurd (bad h.1)
  where
    bad : false ≡ true → ⊥
    bad h = absurd cc
closes_is (b ∷ c ∷ cs) e = let h = both (eqb b 42) (eqb c 47) e in (cs, ap (λ (n : ℕ). n ∷ c ∷ cs) (eqb-true b 42 h.0) ∙ ap (λ (n : ℕ). 42 ∷ n ∷ cs) (eqb-true c 47 h.1))

is_closes : (bytes rest : List ℕ) → bytes ≡ 42 ∷ 47 ∷ rest → closes bytes ≡ true
is_closes bytes rest e = ap closes e

not_both : (b : Bool) → b ≡ false → b ≡ true → ⊥
not_both true e f = absurd cc
not_both false e f = absurd cc

first_more : (b : ℕ) (bs inner rest : List ℕ) → bs ≡ (inner ++ 42 ∷ 47 ∷ []) ++ rest → closes (b ∷ bs) ≡ false → IsFirst inner → IsFirst (b ∷ inner)
first_more b bs inner rest whole stays first [] after e =
    let here : b ≡ 42 = head_is e in
    let next : inner ++ 42 ∷ 47 ∷ [] ≡ 47 ∷ after = tail_is e in
    let all : b ∷ bs ≡ 42 ∷ 47 ∷ (after ++ rest) = ap (λ (n : ℕ). n ∷ bs) here ∙ ap (λ (l : List ℕ). 42 ∷ l) (whole ∙ ap (λ (l : List ℕ). l ++ rest) next) in
    absurd (not_both (closes (b ∷ bs)) stays (is_closes (b ∷ bs) (after ++ rest) all))
first_more b bs inner rest whole stays first (x ∷ before) after e = first before after (tail_is e)

closed_by : (b : ℕ) (bs : List ℕ) (n : ℕ) (c : Bool) (o : Option ℕ) → closes (b ∷ bs) ≡ c → ((k : ℕ) → o ≡ Some k → Closed bs k) → cond c (Some 2) (option_map (λ n. n + 1) o) ≡ Some n → Closed (b ∷ bs) n
closed_by b bs n true o is more e =
    let h = closes_is (b ∷ bs) is in
    record { inner = []; rest = h.0; whole = h.1; size = some_is e; first = first_nil }
closed_by b bs n false None is more e = absurd cc
closed_by b bs n false (Some k) is more e =
    let d = more k refl in
    let step : k + 1 ≡ n = some_is e in
    let size = d.size in
    record {
      inner = b ∷ d.inner;
      rest = d.rest;
      whole = ap (λ (l : List ℕ). b ∷ l) d.whole;
      size = omega arith;
      first = first_more b bs d.inner d.rest d.whole is d.first;
    }

closed_of : (bytes : List ℕ) (n : ℕ) → close_at bytes ≡ Some n → Closed bytes n
unfolding close_at
closed_of [] n e = absurd cc
closed_of (b ∷ bs) n e = closed_by b bs n (closes (b ∷ bs)) (close_at bs) refl (closed_of bs) e

first_less : (b : ℕ) (inner : List ℕ) → IsFirst (b ∷ inner) → IsFirst inner
first_less b inner first before after e = first (b ∷ before) after (ap (λ (l : List ℕ). b ∷ l) e)

not_yet : (b : ℕ) (inner rest : List ℕ) → IsFirst (b ∷ inner) → (c : Bool) → closes (b ∷ ((inner ++ 42 ∷ 47 ∷ []) ++ rest)) ≡ c → closes (b ∷ ((inner ++ 42 ∷ 47 ∷ []) ++ rest)) ≡ false
not_yet b inner rest first false is = is
not_yet b [] rest first true is = let h = closes_is (b ∷ 42 ∷ 47 ∷ rest) is in let bad : true ≡ false = ap (λ (n : ℕ). eqb 42 n) (head_is (tail_is h.1)) in absurd cc
not_yet b (x ∷ inner) rest first true is =
    let h = closes_is (b ∷ x ∷ ((inner ++ 42 ∷ 47 ∷ []) ++ rest)) is in
    let one : b ≡ 42 = head_is h.1 in
    let two : x ≡ 47 = head_is (tail_is h.1) in
    let none : inner ++ 42 ∷ 47 ∷ [] ≡ [] = first [] (inner ++ 42 ∷ 47 ∷ []) (ap (λ (n : ℕ). n ∷ x ∷ (inner ++ 42 ∷ 47 ∷ [])) one ∙ ap (λ (n : ℕ). 42 ∷ n ∷ (inner ++ 42 ∷ 47 ∷ [])) two) in
    let size = ap length none in
    absurd (omega (arith, length-append inner (42 ∷ 47 ∷ [])))

closes_at : (inner rest : List ℕ) → IsFirst inner → close_at ((inner ++ 42 ∷ 47 ∷ []) ++ rest) ≡ Some (length (inner ++ 42 ∷ 47 ∷ []))
unfolding close_at
closes_at [] rest first = refl
closes_at (b ∷ inner) rest first =
    let stays = not_yet b inner rest first (closes (b ∷ ((inner ++ 42 ∷ 47 ∷ []) ++ rest))) refl in
    let n = length (inner ++ 42 ∷ 47 ∷ []) in
    let step : option_map (λ n. n + 1) (close_at ((inner ++ 42 ∷ 47 ∷ []) ++ rest)) ≡ Some (n + 1) = ap (option_map (λ n. n + 1)) (closes_at inner rest (first_less b inner first)) in
    let same : n + 1 ≡ length (b ∷ (inner ++ 42 ∷ 47 ∷ [])) = omega arith in
    let whole : close_at (b ∷ ((inner ++ 42 ∷ 47 ∷ []) ++ rest)) ≡ option_map (λ n. n + 1) (close_at ((inner ++ 42 ∷ 47 ∷ []) ++ rest)) = rw stays refl in
    whole ∙ step ∙ ap (λ (m : ℕ). Some m) same

-- ---- from the length to the gap

line_gap : (cs : List ℕ) (n : ℕ) → 2 + length (take_while is_no_lf cs) ≡ n → BeginsGap (47 ∷ 47 ∷ cs) n
line_gap cs n e =
    let r = run_of is_no_lf cs in
    record {
      text = 47 ∷ 47 ∷ take_while is_no_lf cs;
      rest = drop (length (take_while is_no_lf cs)) cs;
      whole = ap (λ (l : List ℕ). 47 ∷ 47 ∷ l) r.whole;
      size = omega arith;
      is_gap = line (take_while is_no_lf cs) refl r.all r.ends;
    }

block_gap : (cs : List ℕ) (n : ℕ) → 0 < n → (o : Option ℕ) → close_at cs ≡ o → closed_len o ≡ n → BeginsGap (47 ∷ 42 ∷ cs) n
block_gap cs n some None is e = absurd (omega arith)
block_gap cs n some (Some k) is e =
    let d = closed_of cs k is in
    let size = d.size in
    record {
      text = 47 ∷ 42 ∷ (d.inner ++ 42 ∷ 47 ∷ []);
      rest = d.rest;
      whole = ap (λ (l : List ℕ). 47 ∷ 42 ∷ l) d.whole;
      size = omega arith;
      is_gap = block d.inner refl d.first;
    }

comment_by : (c : ℕ) (cs : List ℕ) (n : ℕ) → 0 < n → (x y : Bool) → eqb c 47 ≡ x → eqb c 42 ≡ y → cond x (2 + length (take_while is_no_lf cs)) (cond y (closed_len (close_at cs)) 0) ≡ n → BeginsGap (47 ∷ c ∷ cs) n
comment_by c cs n some true y slash star e = subst (λ (b : ℕ). BeginsGap (47 ∷ b ∷ cs) n) (sym (eqb-true c 47 slash)) (line_gap cs n e)
comment_by c cs n some false true slash star e = subst (λ (b : ℕ). BeginsGap (47 ∷ b ∷ cs) n) (sym (eqb-true c 42 star)) (block_gap cs n some (close_at cs) refl e)
comment_by c cs n some false false slash star e = absurd (omega arith)

comment_gap : (bs : List ℕ) (n : ℕ) → 0 < n → comment_len bs ≡ n → BeginsGap (47 ∷ bs) n
comment_gap [] n some e = absurd (omega arith)
comment_gap (c ∷ cs) n some e = comment_by c cs n some (eqb c 47) (eqb c 42) refl refl e

splice_by : (c : ℕ) (cs : List ℕ) (n : ℕ) → 0 < n → (x y : Bool) → eqb c 10 ≡ x → (eqb c 13 && begins (λ b. eqb b 10) cs) ≡ y → cond x 2 (cond y 3 0) ≡ n → BeginsGap (92 ∷ c ∷ cs) n
splice_by c cs n some true y lf cr e = record { text = 92 ∷ c ∷ []; rest = cs; whole = refl; size = e; is_gap = splice (ap (λ (b : ℕ). 92 ∷ b ∷ []) (eqb-true c 10 lf)) }
splice_by c [] n some false true lf cr e = let h = both (eqb c 13) false cr in absurd (bad h.1)
  where
    bad : false ≡ true → ⊥
    bad h = absurd cc
splice_by c (d ∷ ds) n some false true lf cr e =
    let h = both (eqb c 13) (eqb d 10) cr in
    record { text = 92 ∷ c ∷ d ∷ []; rest = ds; whole = refl; size = e; is_gap = long_splice (ap (λ (b : ℕ). 92 ∷ b ∷ d ∷ []) (eqb-true c 13 h.0) ∙ ap (λ (b : ℕ). 92 ∷ 13 ∷ b ∷ []) (eqb-true d 10 h.1)) }
splice_by c cs n some false false lf cr e = absurd (omega arith)

splice_gap : (bs : List ℕ) (n : ℕ) → 0 < n → splice_len bs ≡ n → BeginsGap (92 ∷ bs) n
splice_gap [] n some e = absurd (omega arith)
splice_gap (c ∷ cs) n some e = splice_by c cs n some (eqb c 10) (eqb c 13 && begins (λ b. eqb b 10) cs) refl refl e

gap_by : (b : ℕ) (bs : List ℕ) (n : ℕ) → 0 < n → (x y z : Bool) → is_blank b ≡ x → eqb b 92 ≡ y → eqb b 47 ≡ z → cond x 1 (cond y (splice_len bs) (cond z (comment_len bs) 0)) ≡ n → BeginsGap (b ∷ bs) n
gap_by b bs n some true y z one two three e = record { text = b ∷ []; rest = bs; whole = refl; size = e; is_gap = blank b one refl }
gap_by b bs n some false true z one two three e = subst (λ (c : ℕ). BeginsGap (c ∷ bs) n) (sym (eqb-true b 92 two)) (splice_gap bs n some e)
gap_by b bs n some false false true one two three e = subst (λ (c : ℕ). BeginsGap (c ∷ bs) n) (sym (eqb-true b 47 three)) (comment_gap bs n some e)
gap_by b bs n some false false false one two three e = absurd (omega arith)

pub gap_is : (bytes : List ℕ) (n : ℕ) → 0 < n → gap_len bytes ≡ n → BeginsGap bytes n
unfolding gap_len
gap_is [] n some e = absurd (omega arith)
gap_is (b ∷ bs) n some e = gap_by b bs n some (is_blank b) (eqb b 92) (eqb b 47) refl refl refl e

-- ---- from the gap to the length

len_of : (text rest : List ℕ) → IsGap text rest → gap_len (text ++ rest) ≡ length text
unfolding gap_len
len_of text rest (blank b is e) =
    let one : gap_len (b ∷ rest) ≡ 1 = rw is refl in
    ap (λ (l : List ℕ). gap_len (l ++ rest)) e ∙ one ∙ sym (ap length e)
len_of text rest (splice e) = let two : gap_len (92 ∷ 10 ∷ rest) ≡ 2 = refl in ap (λ (l : List ℕ). gap_len (l ++ rest)) e ∙ two ∙ sym (ap length e)
len_of text rest (long_splice e) = let three : gap_len (92 ∷ 13 ∷ 10 ∷ rest) ≡ 3 = refl in ap (λ (l : List ℕ). gap_len (l ++ rest)) e ∙ three ∙ sym (ap length e)
len_of text rest (line inner e all ends) =
    let taken : gap_len (47 ∷ 47 ∷ (inner ++ rest)) ≡ 2 + length inner = ap (λ (l : List ℕ). 2 + length l) (run_taken is_no_lf inner rest all ends) in
    let size : 2 + length inner ≡ length (47 ∷ 47 ∷ inner) = omega arith in
    ap (λ (l : List ℕ). gap_len (l ++ rest)) e ∙ taken ∙ size ∙ sym (ap length e)
len_of text rest (block inner e first) =
    let n = length (inner ++ 42 ∷ 47 ∷ []) in
    let taken : gap_len (47 ∷ 42 ∷ ((inner ++ 42 ∷ 47 ∷ []) ++ rest)) ≡ 2 + n = ap closed_len (closes_at inner rest first) in
    let size : 2 + n ≡ length (47 ∷ 42 ∷ (inner ++ 42 ∷ 47 ∷ [])) = omega arith in
    ap (λ (l : List ℕ). gap_len (l ++ rest)) e ∙ taken ∙ size ∙ sym (ap length e)

pub is_gap_of : (bytes : List ℕ) (n : ℕ) → BeginsGap bytes n → gap_len bytes ≡ n
is_gap_of bytes n g = ap gap_len g.whole ∙ len_of g.text g.rest g.is_gap ∙ g.size
