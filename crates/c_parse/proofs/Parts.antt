-- Statements read in parts are the statements that are read.
use Rattle.std.proofs.Common.{◌≡◌, ℕ, Bool, true, false, List, Option, Result, Ok, Err, refl}
use Rattle.c_tree.specs.Tree.{ExprT, StmtT, MaybeS, ArmT}
use Rattle.c_parse.specs.declared.fault.Fault.{Fault}
use Rattle.c_parse.specs.declared.lead.StmtLead.{StmtLead}
use Rattle.c_parse.specs.declared.lead.StmtLead.TheVariants as stmt
use Rattle.c_parse.specs.Tok.{Tok}
use Rattle.c_parse.specs.Scope.{Context}
use Rattle.c_parse.specs.inner.Reader.{Got, behind, open_paren, close_paren, open_brace, close_brace, semicolon, while_word, at_else_word}
use Rattle.c_parse.specs.inner.ReadingLists.{braced}
use Rattle.c_parse.specs.inner.ReadingStatements.{Bodies, maybe_at, first_at, test_at, if_with, while_with, do_with, for_with, switch_with, stmt_by}
use Rattle.c_parse.specs.inner.ReadingParts.{if_parts, while_parts, do_parts, for_parts, switch_parts, stmt_parts}

-- Each form by cases on what its parts give, one after another; where one fails, both sides fail.
module _ (c : Context) (n : ℕ) (r : Bodies) (ts : List Tok) where
  if_3 : (e : Got ExprT) → test_at c n (behind ts) ≡ Ok e → (s : Got StmtT) → r.stmt e.1 ≡ Ok s → at_else_word s.1 ≡ true → (o : Result (Got StmtT) Fault) → r.stmt (behind s.1) ≡ o → if_with c n r ts ≡ if_parts c n r ts
  if_3 e pe s ps pb (Err d) h = rw (pe, ps, pb, h) refl
  if_3 e pe s ps pb (Ok z) h = rw (pe, ps, pb, h) refl

  if_2 : (e : Got ExprT) → test_at c n (behind ts) ≡ Ok e → (s : Got StmtT) → r.stmt e.1 ≡ Ok s → (o : Bool) → at_else_word s.1 ≡ o → if_with c n r ts ≡ if_parts c n r ts
  if_2 e pe s ps false h = rw (pe, ps, h) refl
  if_2 e pe s ps true h = if_3 e pe s ps h (r.stmt (behind s.1)) refl

  if_1 : (e : Got ExprT) → test_at c n (behind ts) ≡ Ok e → (o : Result (Got StmtT) Fault) → r.stmt e.1 ≡ o → if_with c n r ts ≡ if_parts c n r ts
  if_1 e pe (Err d) h = rw (pe, h) refl
  if_1 e pe (Ok s) h = if_2 e pe s h (at_else_word s.1) refl

  if_0 : (o : Result (Got ExprT) Fault) → test_at c n (behind ts) ≡ o → if_with c n r ts ≡ if_parts c n r ts
  if_0 (Err d) h = rw h refl
  if_0 (Ok e) h = if_1 e h (r.stmt e.1) refl

  if_is : if_with c n r ts ≡ if_parts c n r ts
  if_is = if_0 (test_at c n (behind ts)) refl

  while_1 : (e : Got ExprT) → test_at c n (behind ts) ≡ Ok e → (o : Result (Got StmtT) Fault) → r.stmt e.1 ≡ o → while_with c n r ts ≡ while_parts c n r ts
  while_1 e pe (Err d) h = rw (pe, h) refl
  while_1 e pe (Ok s) h = rw (pe, h) refl

  while_0 : (o : Result (Got ExprT) Fault) → test_at c n (behind ts) ≡ o → while_with c n r ts ≡ while_parts c n r ts
  while_0 (Err d) h = rw h refl
  while_0 (Ok e) h = while_1 e h (r.stmt e.1) refl

  while_is : while_with c n r ts ≡ while_parts c n r ts
  while_is = while_0 (test_at c n (behind ts)) refl

  do_3 : (s : Got StmtT) → r.stmt (behind ts) ≡ Ok s → (us : List Tok) → while_word s.1 ≡ Ok us → (e : Got ExprT) → test_at c n us ≡ Ok e → (o : Result (List Tok) Fault) → semicolon e.1 ≡ o → do_with c n r ts ≡ do_parts c n r ts
  do_3 s ps us pus e pe (Err d) h = rw (ps, pus, pe, h) refl
  do_3 s ps us pus e pe (Ok vs) h = rw (ps, pus, pe, h) refl

  do_2 : (s : Got StmtT) → r.stmt (behind ts) ≡ Ok s → (us : List Tok) → while_word s.1 ≡ Ok us → (o : Result (Got ExprT) Fault) → test_at c n us ≡ o → do_with c n r ts ≡ do_parts c n r ts
  do_2 s ps us pus (Err d) h = rw (ps, pus, h) refl
  do_2 s ps us pus (Ok e) h = do_3 s ps us pus e h (semicolon e.1) refl

  do_1 : (s : Got StmtT) → r.stmt (behind ts) ≡ Ok s → (o : Result (List Tok) Fault) → while_word s.1 ≡ o → do_with c n r ts ≡ do_parts c n r ts
  do_1 s ps (Err d) h = rw (ps, h) refl
  do_1 s ps (Ok us) h = do_2 s ps us h (test_at c n us) refl

  do_0 : (o : Result (Got StmtT) Fault) → r.stmt (behind ts) ≡ o → do_with c n r ts ≡ do_parts c n r ts
  do_0 (Err d) h = rw h refl
  do_0 (Ok s) h = do_1 s h (while_word s.1) refl

  do_is : do_with c n r ts ≡ do_parts c n r ts
  do_is = do_0 (r.stmt (behind ts)) refl

  for_7 : (on : List Tok) → open_paren (behind ts) ≡ Ok on → (f : Got MaybeS) → first_at c n on ≡ Ok f → (us : List Tok) → semicolon f.1 ≡ Ok us → (x : Got (Option ExprT)) → maybe_at c n us ≡ Ok x → (vs : List Tok) → semicolon x.1 ≡ Ok vs → (y : Got (Option ExprT)) → maybe_at c n vs ≡ Ok y → (mid : List Tok) → close_paren y.1 ≡ Ok mid → (o : Result (Got StmtT) Fault) → r.stmt mid ≡ o → for_with c n r ts ≡ for_parts c n r ts
  for_7 on pon f pf us pus x px vs pvs y py mid pmid (Err d) h = rw (pon, pf, pus, px, pvs, py, pmid, h) refl
  for_7 on pon f pf us pus x px vs pvs y py mid pmid (Ok s) h = rw (pon, pf, pus, px, pvs, py, pmid, h) refl

  for_6 : (on : List Tok) → open_paren (behind ts) ≡ Ok on → (f : Got MaybeS) → first_at c n on ≡ Ok f → (us : List Tok) → semicolon f.1 ≡ Ok us → (x : Got (Option ExprT)) → maybe_at c n us ≡ Ok x → (vs : List Tok) → semicolon x.1 ≡ Ok vs → (y : Got (Option ExprT)) → maybe_at c n vs ≡ Ok y → (o : Result (List Tok) Fault) → close_paren y.1 ≡ o → for_with c n r ts ≡ for_parts c n r ts
  for_6 on pon f pf us pus x px vs pvs y py (Err d) h = rw (pon, pf, pus, px, pvs, py, h) refl
  for_6 on pon f pf us pus x px vs pvs y py (Ok mid) h = for_7 on pon f pf us pus x px vs pvs y py mid h (r.stmt mid) refl

  for_5 : (on : List Tok) → open_paren (behind ts) ≡ Ok on → (f : Got MaybeS) → first_at c n on ≡ Ok f → (us : List Tok) → semicolon f.1 ≡ Ok us → (x : Got (Option ExprT)) → maybe_at c n us ≡ Ok x → (vs : List Tok) → semicolon x.1 ≡ Ok vs → (o : Result (Got (Option ExprT)) Fault) → maybe_at c n vs ≡ o → for_with c n r ts ≡ for_parts c n r ts
  for_5 on pon f pf us pus x px vs pvs (Err d) h = rw (pon, pf, pus, px, pvs, h) refl
  for_5 on pon f pf us pus x px vs pvs (Ok y) h = for_6 on pon f pf us pus x px vs pvs y h (close_paren y.1) refl

  for_4 : (on : List Tok) → open_paren (behind ts) ≡ Ok on → (f : Got MaybeS) → first_at c n on ≡ Ok f → (us : List Tok) → semicolon f.1 ≡ Ok us → (x : Got (Option ExprT)) → maybe_at c n us ≡ Ok x → (o : Result (List Tok) Fault) → semicolon x.1 ≡ o → for_with c n r ts ≡ for_parts c n r ts
  for_4 on pon f pf us pus x px (Err d) h = rw (pon, pf, pus, px, h) refl
  for_4 on pon f pf us pus x px (Ok vs) h = for_5 on pon f pf us pus x px vs h (maybe_at c n vs) refl

  for_3 : (on : List Tok) → open_paren (behind ts) ≡ Ok on → (f : Got MaybeS) → first_at c n on ≡ Ok f → (us : List Tok) → semicolon f.1 ≡ Ok us → (o : Result (Got (Option ExprT)) Fault) → maybe_at c n us ≡ o → for_with c n r ts ≡ for_parts c n r ts
  for_3 on pon f pf us pus (Err d) h = rw (pon, pf, pus, h) refl
  for_3 on pon f pf us pus (Ok x) h = for_4 on pon f pf us pus x h (semicolon x.1) refl

  for_2 : (on : List Tok) → open_paren (behind ts) ≡ Ok on → (f : Got MaybeS) → first_at c n on ≡ Ok f → (o : Result (List Tok) Fault) → semicolon f.1 ≡ o → for_with c n r ts ≡ for_parts c n r ts
  for_2 on pon f pf (Err d) h = rw (pon, pf, h) refl
  for_2 on pon f pf (Ok us) h = for_3 on pon f pf us h (maybe_at c n us) refl

  for_1 : (on : List Tok) → open_paren (behind ts) ≡ Ok on → (o : Result (Got MaybeS) Fault) → first_at c n on ≡ o → for_with c n r ts ≡ for_parts c n r ts
  for_1 on pon (Err d) h = rw (pon, h) refl
  for_1 on pon (Ok f) h = for_2 on pon f h (semicolon f.1) refl

  for_0 : (o : Result (List Tok) Fault) → open_paren (behind ts) ≡ o → for_with c n r ts ≡ for_parts c n r ts
  for_0 (Err d) h = rw h refl
  for_0 (Ok on) h = for_1 on h (first_at c n on) refl

  for_is : for_with c n r ts ≡ for_parts c n r ts
  for_is = for_0 (open_paren (behind ts)) refl

  switch_3 : (e : Got ExprT) → test_at c n (behind ts) ≡ Ok e → (us : List Tok) → open_brace e.1 ≡ Ok us → (xs : Got (List ArmT)) → braced r.arm us ≡ Ok xs → (o : Result (List Tok) Fault) → close_brace xs.1 ≡ o → switch_with c n r ts ≡ switch_parts c n r ts
  switch_3 e pe us pus xs pxs (Err d) h = rw (pe, pus, pxs, h) refl
  switch_3 e pe us pus xs pxs (Ok vs) h = rw (pe, pus, pxs, h) refl

  switch_2 : (e : Got ExprT) → test_at c n (behind ts) ≡ Ok e → (us : List Tok) → open_brace e.1 ≡ Ok us → (o : Result (Got (List ArmT)) Fault) → braced r.arm us ≡ o → switch_with c n r ts ≡ switch_parts c n r ts
  switch_2 e pe us pus (Err d) h = rw (pe, pus, h) refl
  switch_2 e pe us pus (Ok xs) h = switch_3 e pe us pus xs h (close_brace xs.1) refl

  switch_1 : (e : Got ExprT) → test_at c n (behind ts) ≡ Ok e → (o : Result (List Tok) Fault) → open_brace e.1 ≡ o → switch_with c n r ts ≡ switch_parts c n r ts
  switch_1 e pe (Err d) h = rw (pe, h) refl
  switch_1 e pe (Ok us) h = switch_2 e pe us h (braced r.arm us) refl

  switch_0 : (o : Result (Got ExprT) Fault) → test_at c n (behind ts) ≡ o → switch_with c n r ts ≡ switch_parts c n r ts
  switch_0 (Err d) h = rw h refl
  switch_0 (Ok e) h = switch_1 e h (open_brace e.1) refl

  switch_is : switch_with c n r ts ≡ switch_parts c n r ts
  switch_is = switch_0 (test_at c n (behind ts)) refl

  pub parts_are : (l : StmtLead) → stmt_by c n r ts l ≡ stmt_parts c n r ts l
  parts_are stmt.If = if_is
  parts_are stmt.While = while_is
  parts_are stmt.Do = do_is
  parts_are stmt.For = for_is
  parts_are stmt.Switch = switch_is
  parts_are _ = refl
