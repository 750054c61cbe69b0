use Rattle.std.proofs.Common.{◌≡◌, ◌<◌, ◌≤◌, ◌+◌, ◌-◌, ◌&&◌, ltb, List, ℕ, suc, length, sym, ◌∙◌, ap, subst, false, true, refl, [], ◌∷◌, arith, rules}
use Rattle.std.specs.Prelude.{Some, None, Ok, Err, Result, Vec}
use Rattle.std.specs.List.{list_all}
use Rattle.std.specs.Str.{is_utf8}
use Rattle.std.proofs.lemmas.Result.{err_from_is_err_and}
use Rattle.std.specs.declared.alloc.Global.{Global}
use Rattle.kit_base.specs.declared.failure.Failure.TheVariants.{Cause}
use Rattle.c_lex.specs.declared.token.Token.{Token}
use Rattle.c_prep.specs.declared.error.PrepFault.{PrepFault}
use Rattle.c_prep.specs.Lines.{lines_of}
use Rattle.c_prep.specs.Files.{Progress, Stop, Inclusion, include_in, include_at, file_at, lexed, refusal}
use Rattle.c_prep.specs.inner.Inner.{ArePlaced, GivesAs, GivesOut, included, so_far}
use Rattle.c_prep.specs.declared.error.Fault.TheVariants.{TooDeep}
use Rattle.c_prep.specs.Faults.{fault_at}
use Rattle.c_prep.specs.Numbers.{IsBelow}
use Rattle.c_prep.proofs.Numbering.{placed_more, one_longer}
use Rattle.c_lex.specs.Found.{reading_of}
use Rattle.c_prep.proofs.Taking.{placed_line, placed_rest, taken, all_taken}
use Rattle.c_prep.proofs.Including.{tokens_refused, tokens_read, not_read_at, begun_at, deeper, deep, include_next, include_refused, line_next, line_refused, at_end}
use Rattle.c_prep.specs.Reached.{Reaches}
use Rattle.c_prep.proofs.Reaching.{includes_grow, now_first, inner_first, inner_reached, text_reached, close_reached, text_failed, unnumbered, unread}
use Rattle.c_prep.proofs.files.+expand_file.Goals as goal

pub returns-in_err-bytes-clause-told : goal.returns-in_err-bytes-clause-told
returns-in_err-bytes-clause-told g t c = λ m h.
    let p = err_from_is_err_and c.from_residual.result c.from_residual.ensures.1 in
    let one = tokens_refused m c.args.missing c.args.name.now c.in-Ok.file {X = Vec ℕ Global} {Y = List Token} (λ v. v.items) (λ ts. ts) c.in_err-bytes.field-0.0 (c.in_err-bytes.ensures.told m h) in
    rw (p.1, p.2) (not_read_at m (include_at m c.args.room) c.args.missing c.args.name.now (record { work = c.args.work.now; names = c.args.names.now.items }) c.in-Ok.file c.name_file.new.names.items c.in-Ok.ensures.number c.in-Ok.ensures.names {Y = List Token} (λ ts. ts) (record { work = c.args.work.now; names = c.name_file.new.names.items }) c.in_err-bytes.field-0.0 one)

pub returns-in_err-tokens-clause-told : goal.returns-in_err-tokens-clause-told
returns-in_err-tokens-clause-told g t c = λ m h.
    let p = err_from_is_err_and c.from_residual-in_err-tokens.result c.from_residual-in_err-tokens.ensures.1 in
    let here = subst (λ (bytes : List ℕ). GivesAs {X = List Token} (λ ts. ts) (Err c.in_err-tokens.field-0.0) (lexed c.in-Ok.file (reading_of c.in-Ok.file bytes))) c.as_slice.ensures.value c.in_err-tokens.ensures.told in
    let one = tokens_read m c.args.missing c.args.name.now c.in-Ok.file {X = Vec ℕ Global} {Y = List Token} (λ v. v.items) (λ ts. ts) c.in_ok-bytes.bytes.items (Err c.in_err-tokens.field-0.0) (c.in_ok-bytes.ensures.told m h) here in
    rw (p.1, p.2) (not_read_at m (include_at m c.args.room) c.args.missing c.args.name.now (record { work = c.args.work.now; names = c.args.names.now.items }) c.in-Ok.file c.name_file.new.names.items c.in-Ok.ensures.number c.in-Ok.ensures.names {Y = List Token} (λ ts. ts) (record { work = c.args.work.now; names = c.name_file.new.names.items }) c.in_err-tokens.field-0.0 one)

pub each-init : goal.each-init
each-init g t c =
    let old = c.args.names.now.items in
    let new = c.name_file.new.names.items in
    let longer : length new ≡ length old + 1 = one_longer new old c.args.name.now c.in-Ok.ensures.names in
    let number = c.in-Ok.ensures.number in
    let had : ArePlaced (length old) c.args.work.now.out.tokens = search rules in
    let texts : list_all is_utf8 old ≡ true = search rules in
    let named : c.in-Ok.file < length new = omega arith in
    let le : length old ≤ length new = omega arith in
    record {
      file = named;
      more = le;
      texts = c.name_file.ensures.texts texts;
      put = placed_more (length old) (length new) c.args.work.now.out.tokens le had;
      left = c.in_ok-tokens.ensures.numbers (length new) named;
      held = c.in_ok-bytes.ensures.held;
      faults = c.in_ok-bytes.ensures.causes.failed.later;
      misses = c.in_ok-bytes.ensures.causes.lacked.later;
      overs = c.in_ok-bytes.ensures.causes.over.later;
      reads = λ m h.
          let here = subst (λ (bytes : List ℕ). GivesAs {X = List Token} (λ ts. ts) (Ok c.in_ok-tokens.tokens) (lexed c.in-Ok.file (reading_of c.in-Ok.file bytes))) c.as_slice.ensures.value c.in_ok-tokens.ensures.told in
          let one = tokens_read m c.args.missing c.args.name.now c.in-Ok.file {X = Vec ℕ Global} {Y = List Token} (λ v. v.items) (λ ts. ts) c.in_ok-bytes.bytes.items (Ok c.in_ok-tokens.tokens) (c.in_ok-bytes.ensures.told m h) here in
          begun_at m (include_at m c.args.room) c.args.missing c.args.name.now (record { work = c.args.work.now; names = c.args.names.now.items }) c.in-Ok.file c.name_file.new.names.items c.in-Ok.ensures.number c.in-Ok.ensures.names c.in_ok-tokens.tokens c.in_ok-tokens.tokens c.new-conds.result one refl c.new-conds.ensures;
    }

pub returns-in_err-may_include-in-Some-include_in-clause-told : goal.returns-in_err-may_include-in-Some-include_in-clause-told
returns-in_err-may_include-in-Some-include_in-clause-told g t c = λ m h.
    let p = err_from_is_err_and c.from_residual-in_err-may_include-in-Some-include_in.result c.from_residual-in_err-may_include-in-Some-include_in.ensures.1 in
    let i : Inclusion = record { hash = c.in-Some-include_in.found.hash.now; name = c.in-Some-include_in.found.name.now } in
    let here : include_in c.as_slice-text.result.now c.each.conds ≡ Some i = sym c.include_in.ensures.told ∙ ap included c.in-Some-include_in.is in
    let now : Progress = record { work = c.each.work; names = c.each.names.items } in
    let full : ltb 0 c.args.room && ltb (length c.each.names.items) 10000 ≡ false = ap (λ (ns : List (List ℕ)). ltb 0 c.args.room && ltb (length ns) 10000) (sym c.deref.ensures.value) ∙ c.in_err-may_include-in-Some-include_in.ensures.when in
    rw (p.1, p.2, c.in_err-may_include-in-Some-include_in.ensures.deep) (include_refused (include_at m c.args.room) c.in-Ok.file (c.as_slice-text.result.now ∷ lines_of c.next_line.new.tokens) c.as_slice-text.result.now (lines_of c.next_line.new.tokens) now c.each.conds _ refl (taken (include_at m c.args.room) c.in-Ok.file c.each.tokens c.next_line.new.tokens _ now c.each.conds _ (c.in_ok-line.ensures.told (include_at m c.args.room) now c.each.conds (sym c.skips.ensures)) (c.each.invariant.reads m h) c.in-Some.line c.as_slice-text.result.now c.in-Some.is c.as_slice-text.ensures.value) i now now c.each.names.items (Cause (refusal (fault_at TooDeep c.in-Some-include_in.found.hash.now))) here (deep m c.args.room i now full))

pub returns-in_err-expand_file-in-Some-include_in-clause-told : goal.returns-in_err-expand_file-in-Some-include_in-clause-told
returns-in_err-expand_file-in-Some-include_in-clause-told g t c = λ m h.
    let p = err_from_is_err_and c.from_residual-in_err-expand_file-in-Some-include_in.result c.from_residual-in_err-expand_file-in-Some-include_in.ensures.1 in
    let i : Inclusion = record { hash = c.in-Some-include_in.found.hash.now; name = c.in-Some-include_in.found.name.now } in
    let here : include_in c.as_slice-text.result.now c.each.conds ≡ Some i = sym c.include_in.ensures.told ∙ ap included c.in-Some-include_in.is in
    let now : Progress = record { work = c.each.work; names = c.each.names.items } in
    let new : Progress = record { work = c.expand_file.new.work; names = c.expand_file.new.names.items } in
    let few : length c.each.names.items < 10000 = subst (λ (ns : List (List ℕ)). length ns < 10000) c.deref.ensures.value c.in_ok-may_include-in-Some-include_in.ensures.few in
    let same : include_at m c.args.room i now ≡ file_at m (include_at m (c.args.room - 1)) c.missing_at-lacking.result i.name now = deeper m c.args.room i now c.in_ok-may_include-in-Some-include_in.ensures.some few ∙ ap (λ (x : PrepFault). file_at m (include_at m (c.args.room - 1)) x i.name now) (sym c.missing_at-lacking.ensures.told) in
    let told : g.F.Reads.held c.each.files ≡ Some m = c.each.invariant.held ∙ h in
    let one = subst (λ (r : Result Progress Stop). GivesOut {X = Unit {0}} new c.expand_file.new.names.items (Err c.in_err-expand_file-in-Some-include_in.field-0.0) r) (sym same) (c.in_err-expand_file-in-Some-include_in.ensures.told m told) in
    rw (p.1, p.2) (include_refused (include_at m c.args.room) c.in-Ok.file (c.as_slice-text.result.now ∷ lines_of c.next_line.new.tokens) c.as_slice-text.result.now (lines_of c.next_line.new.tokens) now c.each.conds _ refl (taken (include_at m c.args.room) c.in-Ok.file c.each.tokens c.next_line.new.tokens _ now c.each.conds _ (c.in_ok-line.ensures.told (include_at m c.args.room) now c.each.conds (sym c.skips.ensures)) (c.each.invariant.reads m h) c.in-Some.line c.as_slice-text.result.now c.in-Some.is c.as_slice-text.ensures.value) i new new c.expand_file.new.names.items c.in_err-expand_file-in-Some-include_in.field-0.0 here one)

pub returns-in_err-step_line-in-None-clause-told : goal.returns-in_err-step_line-in-None-clause-told
returns-in_err-step_line-in-None-clause-told g t c = λ m h.
    let p = err_from_is_err_and c.from_residual-in_err-step_line-in-None.result c.from_residual-in_err-step_line-in-None.ensures.1 in
    let here : include_in c.as_slice-text.result.now c.each.conds ≡ None = sym c.include_in.ensures.told ∙ ap included c.in-None.is in
    let now : Progress = record { work = c.each.work; names = c.each.names.items } in
    rw (p.1, p.2) (line_refused (include_at m c.args.room) c.in-Ok.file (c.as_slice-text.result.now ∷ lines_of c.next_line.new.tokens) c.as_slice-text.result.now (lines_of c.next_line.new.tokens) now c.each.conds _ refl (taken (include_at m c.args.room) c.in-Ok.file c.each.tokens c.next_line.new.tokens _ now c.each.conds _ (c.in_ok-line.ensures.told (include_at m c.args.room) now c.each.conds (sym c.skips.ensures)) (c.each.invariant.reads m h) c.in-Some.line c.as_slice-text.result.now c.in-Some.is c.as_slice-text.ensures.value) (c.step_line.new.work, c.step_line.new.conds) (record { work = c.step_line.new.work; names = c.each.names.items }) c.in_err-step_line-in-None.field-0.0 here (c.in_err-step_line-in-None.ensures.told c.each.names.items))

pub each-preserved : goal.each-preserved
each-preserved g t c = elim c.match-include_in.branch [
  | goal.in-Some-include_in+in_ok-may_include-in-Some-include_in+in_ok-expand_file-in-Some-include_in w ↦
      let i : Inclusion = record { hash = w.in-Some-include_in.found.hash.now; name = w.in-Some-include_in.found.name.now } in
      let here : include_in c.as_slice-text.result.now c.each.conds ≡ Some i = sym c.include_in.ensures.told ∙ ap included w.in-Some-include_in.is in
      let now : Progress = record { work = c.each.work; names = c.each.names.items } in
      let few : length c.each.names.items < 10000 = subst (λ (ns : List (List ℕ)). length ns < 10000) w.deref.ensures.value w.in_ok-may_include-in-Some-include_in.ensures.few in
      let causes = w.in_ok-expand_file-in-Some-include_in.ensures.causes in
      rw (w.files-is, w.work-is, w.names-is, w.conds-is) (record {
        held = w.in_ok-expand_file-in-Some-include_in.ensures.held ∙ c.each.invariant.held;
        file = let a = c.each.invariant.file in let b = w.in_ok-expand_file-in-Some-include_in.ensures.more in omega (arith, a, b);
        more = let a = c.each.invariant.more in let b = w.in_ok-expand_file-in-Some-include_in.ensures.more in omega (arith, a, b);
        texts = w.in_ok-expand_file-in-Some-include_in.ensures.texts;
        put = w.in_ok-expand_file-in-Some-include_in.ensures.numbers;
        left = placed_more (length c.each.names.items) (length w.expand_file.new.names.items) c.next_line.new.tokens w.in_ok-expand_file-in-Some-include_in.ensures.more (placed_rest (length c.each.names.items) c.next_line.new.tokens c.in-Some.line _ c.in-Some.is (c.in_ok-line.ensures.others (length c.each.names.items) c.each.invariant.left));
        faults = let a = c.each.invariant.faults in let b = causes.failed.later in omega (arith, a, b);
        misses = let a = c.each.invariant.misses in let b = causes.lacked.later in omega (arith, a, b);
        overs = let a = c.each.invariant.overs in let b = causes.over.later in omega (arith, a, b);
        reads = λ m h.
            let told : g.F.Reads.held c.each.files ≡ Some m = c.each.invariant.held ∙ h in
            let same : include_at m c.args.room i now ≡ file_at m (include_at m (c.args.room - 1)) w.missing_at-lacking.result i.name now = deeper m c.args.room i now w.in_ok-may_include-in-Some-include_in.ensures.some few ∙ ap (λ (x : PrepFault). file_at m (include_at m (c.args.room - 1)) x i.name now) (sym w.missing_at-lacking.ensures.told) in
            include_next (include_at m c.args.room) c.in-Ok.file (c.as_slice-text.result.now ∷ lines_of c.next_line.new.tokens) c.as_slice-text.result.now (lines_of c.next_line.new.tokens) now c.each.conds _ refl (taken (include_at m c.args.room) c.in-Ok.file c.each.tokens c.next_line.new.tokens _ now c.each.conds _ (c.in_ok-line.ensures.told (include_at m c.args.room) now c.each.conds (sym c.skips.ensures)) (c.each.invariant.reads m h) c.in-Some.line c.as_slice-text.result.now c.in-Some.is c.as_slice-text.ensures.value) i _ here (same ∙ w.in_ok-expand_file-in-Some-include_in.ensures.told m told);
      })
  | goal.in-None+in_ok-step_line-in-None w ↦
      let here : include_in c.as_slice-text.result.now c.each.conds ≡ None = sym c.include_in.ensures.told ∙ ap included w.in-None.is in
      let now : Progress = record { work = c.each.work; names = c.each.names.items } in
      rw (w.files-is, w.work-is, w.names-is, w.conds-is) (record {
        held = c.each.invariant.held;
        file = c.each.invariant.file;
        more = c.each.invariant.more;
        texts = c.each.invariant.texts;
        put = w.in_ok-step_line-in-None.ensures.numbers (length c.each.names.items) (placed_line (length c.each.names.items) c.next_line.new.tokens c.in-Some.line _ c.in-Some.is c.as_slice-text.result.now (c.in_ok-line.ensures.placed (length c.each.names.items) c.each.invariant.left) c.as_slice-text.ensures.value) c.each.invariant.put;
        left = placed_rest (length c.each.names.items) c.next_line.new.tokens c.in-Some.line _ c.in-Some.is (c.in_ok-line.ensures.others (length c.each.names.items) c.each.invariant.left);
        faults = c.each.invariant.faults;
        misses = c.each.invariant.misses;
        overs = c.each.invariant.overs;
        reads = λ m h. line_next (include_at m c.args.room) c.in-Ok.file (c.as_slice-text.result.now ∷ lines_of c.next_line.new.tokens) c.as_slice-text.result.now (lines_of c.next_line.new.tokens) now c.each.conds _ refl (taken (include_at m c.args.room) c.in-Ok.file c.each.tokens c.next_line.new.tokens _ now c.each.conds _ (c.in_ok-line.ensures.told (include_at m c.args.room) now c.each.conds (sym c.skips.ensures)) (c.each.invariant.reads m h) c.in-Some.line c.as_slice-text.result.now c.in-Some.is c.as_slice-text.ensures.value) w.step_line.new.work w.step_line.new.conds here (w.in_ok-step_line-in-None.ensures.told c.each.names.items);
      })
]

pub returns-clause-told : goal.returns-clause-told
returns-clause-told g t c = λ m h.
    let now : Progress = record { work = c.each.work; names = c.each.names.items } in
    at_end (include_at m c.args.room) c.in-Ok.file [] now c.each.conds _ refl (all_taken (include_at m c.args.room) c.in-Ok.file c.each.tokens c.next_line.new.tokens _ now c.each.conds _ (c.in_ok-line.ensures.told (include_at m c.args.room) now c.each.conds (sym c.skips.ensures)) (c.each.invariant.reads m h) c.in_default-2.is) c.close.result (c.close.ensures.told c.each.names.items)

pub returns-in_err-may_include-in-Some-include_in-clause-numbers : goal.returns-in_err-may_include-in-Some-include_in-clause-numbers
returns-in_err-may_include-in-Some-include_in-clause-numbers g t c =
    let p = err_from_is_err_and c.from_residual-in_err-may_include-in-Some-include_in.result c.from_residual-in_err-may_include-in-Some-include_in.ensures.1 in
    rw (p.1, p.2, c.in_err-may_include-in-Some-include_in.ensures.deep) (c.in-Some-include_in.ensures.numbers (length c.each.names.items) (placed_line (length c.each.names.items) c.next_line.new.tokens c.in-Some.line _ c.in-Some.is c.as_slice-text.result.now (c.in_ok-line.ensures.placed (length c.each.names.items) c.each.invariant.left) c.as_slice-text.ensures.value))

pub returns-in_err-step_line-in-None-clause-numbers : goal.returns-in_err-step_line-in-None-clause-numbers
returns-in_err-step_line-in-None-clause-numbers g t c =
    let p = err_from_is_err_and c.from_residual-in_err-step_line-in-None.result c.from_residual-in_err-step_line-in-None.ensures.1 in
    rw (p.1, p.2) (c.in_err-step_line-in-None.ensures.numbers (length c.each.names.items) (placed_line (length c.each.names.items) c.next_line.new.tokens c.in-Some.line _ c.in-Some.is c.as_slice-text.result.now (c.in_ok-line.ensures.placed (length c.each.names.items) c.each.invariant.left) c.as_slice-text.ensures.value) c.each.invariant.put)

pub expand_file-requires : goal.expand_file-requires
expand_file-requires g t c =
    let n = length c.each.names.items in
    let lacking : IsBelow n (Cause c.missing_at-lacking.result) = c.missing_at-lacking.ensures.numbers n (c.in-Some-include_in.ensures.numbers n (placed_line n c.next_line.new.tokens c.in-Some.line _ c.in-Some.is c.as_slice-text.result.now (c.in_ok-line.ensures.placed n c.each.invariant.left) c.as_slice-text.ensures.value)) in
    search rules

-- how far the reading got

pub returns-in_default-clause-reached : goal.returns-in_default-clause-reached
returns-in_default-clause-reached g t c = λ m h.
    unnumbered m c.args.room c.args.missing c.args.name.now (record { work = c.args.work.now; names = c.args.names.now.items }) c.name_file.new.names.items c.in_default.ensures.kept

pub returns-in_err-bytes-clause-reached : goal.returns-in_err-bytes-clause-reached
returns-in_err-bytes-clause-reached g t c = λ m h.
    let p = err_from_is_err_and c.from_residual.result c.from_residual.ensures.1 in
    let longer : length c.name_file.new.names.items ≡ length c.args.names.now.items + 1 = one_longer c.name_file.new.names.items c.args.names.now.items c.args.name.now c.in-Ok.ensures.names in
    let number = c.in-Ok.ensures.number in
    let numbered : suc c.in-Ok.file ≡ length c.name_file.new.names.items = omega arith in
    rw (p.1, p.2) (unread m c.args.room c.args.missing c.args.name.now (record { work = c.args.work.now; names = c.args.names.now.items }) c.in-Ok.file c.name_file.new.names.items numbered c.in-Ok.ensures.names c.in_err-bytes.field-0.0 c.in_err-bytes.ensures.failed)

pub returns-in_err-tokens-clause-reached : goal.returns-in_err-tokens-clause-reached
returns-in_err-tokens-clause-reached g t c = λ m h.
    let p = err_from_is_err_and c.from_residual-in_err-tokens.result c.from_residual-in_err-tokens.ensures.1 in
    let longer : length c.name_file.new.names.items ≡ length c.args.names.now.items + 1 = one_longer c.name_file.new.names.items c.args.names.now.items c.args.name.now c.in-Ok.ensures.names in
    let number = c.in-Ok.ensures.number in
    let numbered : suc c.in-Ok.file ≡ length c.name_file.new.names.items = omega arith in
    rw (p.1, p.2) (unread m c.args.room c.args.missing c.args.name.now (record { work = c.args.work.now; names = c.args.names.now.items }) c.in-Ok.file c.name_file.new.names.items numbered c.in-Ok.ensures.names c.in_err-tokens.field-0.0 (text_failed c.in-Ok.file c.in_err-tokens.field-0.0 c.in_err-tokens.ensures.text))

pub returns-in_err-line-clause-reached : goal.returns-in_err-line-clause-reached
returns-in_err-line-clause-reached g t c = λ m h.
    let p = err_from_is_err_and c.from_residual-in_err-line.result c.from_residual-in_err-line.ensures.1 in
    let now : Progress = record { work = c.each.work; names = c.each.names.items } in
    let first = now_first (include_at m c.args.room) (includes_grow m c.args.room) c.in-Ok.file (lines_of c.each.tokens) now c.each.conds _ (c.each.invariant.reads m h) in
    rw (p.1, p.2) first

pub returns-in_err-expand_file-in-Some-include_in-clause-reached : goal.returns-in_err-expand_file-in-Some-include_in-clause-reached
returns-in_err-expand_file-in-Some-include_in-clause-reached g t c = λ m h.
    let p = err_from_is_err_and c.from_residual-in_err-expand_file-in-Some-include_in.result c.from_residual-in_err-expand_file-in-Some-include_in.ensures.1 in
    let i : Inclusion = record { hash = c.in-Some-include_in.found.hash.now; name = c.in-Some-include_in.found.name.now } in
    let here : include_in c.as_slice-text.result.now c.each.conds ≡ Some i = sym c.include_in.ensures.told ∙ ap included c.in-Some-include_in.is in
    let now : Progress = record { work = c.each.work; names = c.each.names.items } in
    let few : length c.each.names.items < 10000 = subst (λ (ns : List (List ℕ)). length ns < 10000) c.deref.ensures.value c.in_ok-may_include-in-Some-include_in.ensures.few in
    let same : include_at m c.args.room i now ≡ file_at m (include_at m (c.args.room - 1)) c.missing_at-lacking.result i.name now = deeper m c.args.room i now c.in_ok-may_include-in-Some-include_in.ensures.some few ∙ ap (λ (x : PrepFault). file_at m (include_at m (c.args.room - 1)) x i.name now) (sym c.missing_at-lacking.ensures.told) in
    let told : g.F.Reads.held c.each.files ≡ Some m = c.each.invariant.held ∙ h in
    let one = subst (λ (r : Result Progress Stop). Reaches {T = Unit {0}} so_far (Err c.in_err-expand_file-in-Some-include_in.field-0.0) c.expand_file.new.names.items r) (sym same) (c.in_err-expand_file-in-Some-include_in.ensures.reached m told) in
    let first = inner_first (include_at m c.args.room) (includes_grow m c.args.room) c.in-Ok.file (c.as_slice-text.result.now ∷ lines_of c.next_line.new.tokens) c.as_slice-text.result.now (lines_of c.next_line.new.tokens) now c.each.conds _ refl (taken (include_at m c.args.room) c.in-Ok.file c.each.tokens c.next_line.new.tokens _ now c.each.conds _ (c.in_ok-line.ensures.told (include_at m c.args.room) now c.each.conds (sym c.skips.ensures)) (c.each.invariant.reads m h) c.in-Some.line c.as_slice-text.result.now c.in-Some.is c.as_slice-text.ensures.value) i here in
    rw (p.1, p.2) (inner_reached (include_at m c.args.room i now) _ c.in_err-expand_file-in-Some-include_in.field-0.0 c.expand_file.new.names.items first one)

pub returns-in_err-step_line-in-None-clause-reached : goal.returns-in_err-step_line-in-None-clause-reached
returns-in_err-step_line-in-None-clause-reached g t c = λ m h.
    let p = err_from_is_err_and c.from_residual-in_err-step_line-in-None.result c.from_residual-in_err-step_line-in-None.ensures.1 in
    let now : Progress = record { work = c.each.work; names = c.each.names.items } in
    let first = now_first (include_at m c.args.room) (includes_grow m c.args.room) c.in-Ok.file (c.as_slice-text.result.now ∷ lines_of c.next_line.new.tokens) now c.each.conds _ (taken (include_at m c.args.room) c.in-Ok.file c.each.tokens c.next_line.new.tokens _ now c.each.conds _ (c.in_ok-line.ensures.told (include_at m c.args.room) now c.each.conds (sym c.skips.ensures)) (c.each.invariant.reads m h) c.in-Some.line c.as_slice-text.result.now c.in-Some.is c.as_slice-text.ensures.value) in
    rw (p.1, p.2) (text_reached c.in_err-step_line-in-None.field-0.0 c.each.names.items _ c.in_err-step_line-in-None.ensures.text first)

pub returns-clause-reached : goal.returns-clause-reached
returns-clause-reached g t c = λ m h.
    let now : Progress = record { work = c.each.work; names = c.each.names.items } in
    let first = now_first (include_at m c.args.room) (includes_grow m c.args.room) c.in-Ok.file [] now c.each.conds _ (all_taken (include_at m c.args.room) c.in-Ok.file c.each.tokens c.next_line.new.tokens _ now c.each.conds _ (c.in_ok-line.ensures.told (include_at m c.args.room) now c.each.conds (sym c.skips.ensures)) (c.each.invariant.reads m h) c.in_default-2.is) in
    close_reached c.close.result c.each.names.items _ c.close.ensures.text first
