-- A text whose labels are known has no fault, and the words of its parts are its words.
use Rattle.std.proofs.Common.{◌≡◌, ℕ, ◌+◌, ◌≤◌, ◌<◌, ◌^◌, Bool, true, false, true≢false, not, cond, ltb, ◌&&◌, List, [], ◌∷◌, ◌++◌, map, length, inl, inr, refl, sym, ap, ◌∙◌, append_assoc, append-nil, arith}
use Rattle.std.specs.Prelude.{Option, Some, None, Ok, is_some, option_and_then, option_to_list, unwrap_or}
use Rattle.std.specs.Option.{option_map_or}
use Rattle.std.specs.List.{list_all}
use Rattle.std.proofs.lemmas.Bool.{and_parts, and_from, le-ltb, lt-ltb}
use Rattle.std.proofs.lemmas.List.Folds.{list_all-append}
use Rattle.kit_base.specs.declared.failure.Failure.{Failure}
use Rattle.kit_base.specs.declared.failure.Failure.TheVariants as failures
use Rattle.kit_base.specs.Gives.{Fails, IfCause}
use Rattle.either.specs.Either.{right}
use Rattle.either.specs.declared.Either.TheVariants.{Left, Right}
use Rattle.asm_items.specs.declared.item.AsmItem.{AsmItem}
use Rattle.asm_items.specs.declared.item.AsmItem.TheVariants.{Label, Op, Integer, Pointer}
use Rattle.asm_items.specs.Items.{Imm}
use Rattle.asm_reader.specs.Reading.{read}
use Rattle.asm_reader.specs.declared.error.AsmFault.{AsmFault}
use Rattle.asm_items.specs.Words.{imm_word, words_of_items}
use Rattle.assembler.specs.Faults.{IsRefusal, fault_of, past_from, twice_from, unknown_from, with_name}
use Rattle.assembler.specs.Labels.{address_in, address_of, are_words, has_label, with_label}
use Rattle.assembler.specs.Naming.{immediate, is_known}
use Rattle.assembler.specs.Placed.{Placed, item_size, label_at, labels_from, labels_of}
use Rattle.assembler.specs.Sizes.{total_size}
use Rattle.assembler.specs.Texts.{AreWordsOf, IsTextRefusal}
use Rattle.assembler.specs.inner.Parts.{AreOf, filled, item_parts, part_word, parts_of, words_on}
use Rattle.assembler.specs.inner.Survey.{names_of}
use Rattle.assembler.proofs.Parted.{parts_words, total_parts}
use Rattle.assembler.proofs.Walking.{among, names_more}
use Rattle.assembler.proofs.Whole.{few_words, goes_last}

-- ---- no label stands twice

module _ (items : List AsmItem) (number address : ℕ) (before : List (List ℕ × ℕ)) (t : List (List ℕ × ℕ)) where
  abbrev Once : List (List ℕ × ℕ) → List AsmItem → ℕ → ℕ → Type 0
  Once table is n a = (t ≡ table ++ labels_from a is) × (twice_from n (names_of table) is ≡ None)

  by_label : (name : List ℕ) (b : Bool) → has_label before name ≡ b
      → cond b None (filled (before ++ (name, address) ∷ []) (labels_from (address + 0) items)) ≡ Some t
      → (filled (before ++ (name, address) ∷ []) (labels_from (address + 0) items) ≡ Some t → Once (before ++ (name, address) ∷ []) items (number + 1) (address + 0))
      → (t ≡ before ++ (name, address) ∷ labels_from (address + 0) items) × (cond b (Some number) (twice_from (number + 1) (with_name (names_of before) (Some name)) items) ≡ None)
  by_label name true is e rest = absurd cc
  by_label name false is e rest =
      let so = rest e in
      let same : names_of (before ++ (name, address) ∷ []) ≡ with_name (names_of before) (Some name) =
      ap names_of (sym (goes_last before (Label name) address is)) ∙ names_more before (Some name) address is in
      (so.0 ∙ append_assoc before ((name, address) ∷ []) (labels_from (address + 0) items), ap (λ ns. twice_from (number + 1) ns items) (sym same) ∙ so.1)

filled_once : (items : List AsmItem) (number address : ℕ) (before t : List (List ℕ × ℕ)) → filled before (labels_from address items) ≡ Some t
    → (t ≡ before ++ labels_from address items) × (twice_from number (names_of before) items ≡ None)
unfolding filled labels_from twice_from
filled_once [] number address before t e = (let same : before ≡ t = cc in sym same ∙ sym (append-nil before), refl)
filled_once (Label name ∷ items) number address before t e =
    let so = by_label items number address before t name (has_label before name) refl e (filled_once items (number + 1) (address + 0) (before ++ (name, address) ∷ []) t) in
    (so.0, ap (λ b. cond b (Some number) (twice_from (number + 1) (with_name (names_of before) (Some name)) items)) (among before (Some name)) ∙ so.1)
filled_once (Op i ∷ items) number address before t e = filled_once items (number + 1) (address + item_size (Op i)) before t e
filled_once (Integer w ∷ items) number address before t e = filled_once items (number + 1) (address + 1) before t e
filled_once (Pointer name ∷ items) number address before t e = filled_once items (number + 1) (address + 1) before t e

-- ---- the words fit

not_past : (items : List AsmItem) (number words : ℕ) → words + total_size items ≤ 33554432 → past_from number words items ≡ None
unfolding past_from total_size
not_past [] number words few = refl
not_past (item ∷ items) number words few =
    let fits : words + item_size item ≤ 33554432 = omega (arith, few) in
    rw (le-ltb 33554432 (words + item_size item) fits) (not_past items (number + 1) (words + item_size item) (omega (arith, few)))

-- ---- each address is a word

label_word : (item : AsmItem) (address : ℕ) (rest : List (List ℕ × ℕ)) → address < 2 ^ 32 → are_words rest ≡ true → are_words (label_at address item ++ rest) ≡ true
label_word (Label name) address rest small all = and_from (ltb address (2 ^ 32)) (are_words rest) (lt-ltb address (2 ^ 32) small) all
label_word (Op i) address rest small all = all
label_word (Integer w) address rest small all = all
label_word (Pointer name) address rest small all = all

all_words : (items : List AsmItem) (address : ℕ) → address + total_size items ≤ 570425344 → are_words (labels_from address items) ≡ true
unfolding labels_from total_size
all_words [] address room = refl
all_words (item ∷ items) address room = label_word item address (labels_from (address + item_size item) items) (omega (arith, room)) (all_words items (address + item_size item) (omega (arith, room)))

-- ---- each label is known

abbrev known_part : List (List ℕ × ℕ) → Imm → Bool
known_part labels (Left w) = true
known_part labels (Right name) = has_label labels name

abbrev Become : List (List ℕ × ℕ) → (words : List ℕ) → (ps : List Imm) → (new : List ℕ) → Type 0
Become labels words ps new = (list_all (known_part labels) ps ≡ true) × (new ≡ words ++ map (imm_word (address_in labels)) ps)

become : (labels : List (List ℕ × ℕ)) (words : List ℕ) (ps : List Imm) (new : List ℕ) → words_on labels words ps ≡ Some new → Become labels words ps new
unfolding words_on
become labels words [] new e = (refl, (let same : words ≡ new = cc in sym same ∙ sym (append-nil words)))
become labels words (Left w ∷ ps) new e =
    let so = become labels (words ++ w ∷ []) ps new e in
    (so.0, so.1 ∙ append_assoc words (w ∷ []) (map (imm_word (address_in labels)) ps))
become labels words (Right name ∷ ps) new e = by_address (address_of labels name) refl e (λ a h. become labels (words ++ a ∷ []) ps new h)
  where
    by_address : (o : Option ℕ) → address_of labels name ≡ o → option_and_then (λ w. words_on labels (words ++ w ∷ []) ps) o ≡ Some new
        → ((a : ℕ) → words_on labels (words ++ a ∷ []) ps ≡ Some new → Become labels (words ++ a ∷ []) ps new) → Become labels words (Right name ∷ ps) new
    by_address None is h again = absurd cc
    by_address (Some a) is h again =
        let so = again a h in
        let at : address_in labels name ≡ a = ap (λ o. unwrap_or o 0) is in (
          and_from (has_label labels name) (list_all (known_part labels) ps) (ap is_some is) so.0,
          so.1 ∙ append_assoc words (a ∷ []) (map (imm_word (address_in labels)) ps) ∙ ap (λ w. words ++ w ∷ map (imm_word (address_in labels)) ps) (sym at),
        )

and_true : (b : Bool) → (b && true) ≡ b
and_true true = refl
and_true false = refl

immediate_known : (labels : List (List ℕ × ℕ)) (o : Option Imm) → list_all (known_part labels) (option_to_list o) ≡ option_map_or (has_label labels) (option_and_then right o) true
immediate_known labels None = refl
immediate_known labels (Some (Left w)) = refl
immediate_known labels (Some (Right name)) = and_true (has_label labels name)

item_known : (labels : List (List ℕ × ℕ)) (item : AsmItem) → list_all (known_part labels) (item_parts item) ≡ is_known labels item
item_known labels (Label name) = refl
item_known labels (Op i) = immediate_known labels (immediate i)
item_known labels (Integer w) = refl
item_known labels (Pointer name) = and_true (has_label labels name)

all_known : (items : List AsmItem) (number : ℕ) (labels : List (List ℕ × ℕ)) → list_all (known_part labels) (parts_of items) ≡ true → unknown_from number labels items ≡ None
unfolding unknown_from
all_known [] number labels known = refl
all_known (item ∷ items) number labels known =
    let both = and_parts (list_all (known_part labels) (item_parts item)) (list_all (known_part labels) (parts_of items))
    (sym (list_all-append (known_part labels) (item_parts item) (parts_of items)) ∙ known) in
    rw (sym (item_known labels item) ∙ both.0) (all_known items (number + 1) labels both.1)

-- ---- the whole

no_fault : (items : List AsmItem) → twice_from 1 [] items ≡ None → unknown_from 1 (labels_of items) items ≡ None → past_from 1 0 items ≡ None → fault_of items ≡ None
unfolding fault_of
no_fault items twice unknown past = rw (twice, unknown, past) refl

module _ (text : List ℕ) (parts : List Imm) (labels : List (List ℕ × ℕ)) (are : AreOf text parts labels) (few : length parts ≤ 33554432) (t : List (List ℕ × ℕ)) (made : filled [] labels ≡ Some t) where
  size : total_size are.items ≤ 33554432
  size = let a = ap length are.words_are in let b = total_parts are.items in omega (arith, few, a, b)

  once : (t ≡ labels_of are.items) × (twice_from 1 [] are.items ≡ None)
  once = filled_once are.items 1 0x20000000 [] t (ap (filled []) (sym are.labels_are) ∙ made)

  pub are_addresses : are_words t ≡ true
  are_addresses = ap are_words once.0 ∙ all_words are.items 0x20000000 (omega (arith, size))

  pub are_words_of : (words : List ℕ) → words_on t [] parts ≡ Some words → AreWordsOf text words
  are_words_of words placed =
      let so = become (labels_of are.items) [] (parts_of are.items) words
      (ap (λ (ls : List (List ℕ × ℕ)). words_on ls [] (parts_of are.items)) (sym once.0) ∙ ap (words_on t []) (sym are.words_are) ∙ placed) in
      record {
        items = are.items;
        reads = are.reads;
        faultless = no_fault are.items once.1 (all_known are.items 1 (labels_of are.items) so.0) (not_past are.items 1 0 (omega (arith, size)));
        words_are = so.1 ∙ parts_words (address_in (labels_of are.items)) are.items;
      }

-- ---- from the items of a text

pub from_items : (text : List ℕ) (items : List AsmItem) (words : List ℕ) (labels : List (List ℕ × ℕ)) → read text ≡ Ok items → fault_of items ≡ None → Placed items words labels → AreWordsOf text words
from_items text items words labels reads none placed =
    record {
      items = items;
      reads = reads;
      faultless = none;
      words_are = placed.words_are ∙ ap (λ (ls : List (List ℕ × ℕ)). words_of_items (address_in ls) items) placed.labels_are;
    }

pub few : (text words : List ℕ) → AreWordsOf text words → length words ≤ 33554432
few text words are = few_words are.items words (labels_of are.items) (record { labels_are = refl; words_are = are.words_are }) are.faultless

pub unread : (text : List ℕ) (e : Failure AsmFault) → Fails e (read text) → IfCause (IsTextRefusal text) e
unread text failures.Memory is = tt
unread text (failures.Cause fault) is = inl is

pub faulty : (text : List ℕ) (items : List AsmItem) (e : Failure AsmFault) → read text ≡ Ok items → IfCause (IsRefusal items) e → IfCause (IsTextRefusal text) e
faulty text items failures.Memory reads is = tt
faulty text items (failures.Cause fault) reads is = inr (items, reads, is)

-- ---- a turn of the walk over parts

pub word_on : (labels : List (List ℕ × ℕ)) (words new : List ℕ) (rest after : List Imm) (part : Imm) (word : ℕ) (total : Option (List ℕ))
    → rest ≡ part ∷ after → Some word ≡ part_word labels part → new ≡ words ++ word ∷ [] → words_on labels words rest ≡ total → words_on labels new after ≡ total
unfolding words_on
word_on labels words new rest after part word total whole is new_is so_far =
    let e : words_on labels words rest ≡ words_on labels (words ++ word ∷ []) after = rw (whole, sym is) refl in
    ap (λ ws. words_on labels ws after) new_is ∙ sym e ∙ so_far

pub words_end : (labels : List (List ℕ × ℕ)) (words : List ℕ) (rest : List Imm) (total : Option (List ℕ)) → length rest ≡ 0 → words_on labels words rest ≡ total → total ≡ Some words
unfolding words_on
words_end labels words [] total empty so_far = sym so_far
words_end labels words (p ∷ rest) total empty so_far = absurd cc

-- ---- a turn of the walk over labels

pub filled_on : (table new rest after : List (List ℕ × ℕ)) (name : List ℕ) (address : ℕ) (total : Option (List (List ℕ × ℕ)))
    → rest ≡ (name, address) ∷ after → true ≡ not (has_label table name) → new ≡ with_label table name address → filled table rest ≡ total → filled new after ≡ total
unfolding filled
filled_on table new rest after name address total whole is new_is so_far = by_known (has_label table name) refl is
  where
    by_known : (b : Bool) → has_label table name ≡ b → true ≡ not b → filled new after ≡ total
    by_known true there h = absurd (true≢false h)
    by_known false there h =
        let longer : new ≡ table ++ (name, address) ∷ [] = new_is ∙ rw there refl in
        let e : filled table rest ≡ filled (table ++ (name, address) ∷ []) after = rw (whole, there) refl in
        ap (λ ls. filled ls after) longer ∙ sym e ∙ so_far

pub filled_end : (table rest : List (List ℕ × ℕ)) (total : Option (List (List ℕ × ℕ))) → length rest ≡ 0 → filled table rest ≡ total → total ≡ Some table
unfolding filled
filled_end table [] total empty so_far = sym so_far
filled_end table (l ∷ rest) total empty so_far = absurd cc
