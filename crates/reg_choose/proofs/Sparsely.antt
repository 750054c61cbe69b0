-- Trails found with less are trails.
use Rattle.std.proofs.Common.{◌≡◌, ℕ, suc, ◌+◌, Bool, false, ◌||◌, ◌&&◌, not, List, ◌∷◌, refl, ap, ◌∙◌}
use Rattle.mid_code.specs.Code.{NodesT, Stop, Do, Call, Choose, Block, Loop, Leave, Again, Return, maybe}
use Rattle.mid_code.specs.Live.{Label, label, is_among, is_used, is_target, is_live}
use Rattle.mid_code.specs.Spans.{places}
use Rattle.reg_choose.specs.declared.trail.Trail.{Trail}
use Rattle.reg_choose.specs.inner.Trails.{stood, crossing, trailed}
use Rattle.reg_choose.specs.inner.Sparse.{follows, ceases, sparse}
use Rattle.reg_choose.proofs.Ranges.{Reach, swap, crossing_stood, stood_reach}

-- ---- what was told before is told still

pass : (t : Bool) (n : ℕ) (b : Bool) (p : ℕ) (r s : Trail) → r ≡ stood b p s → stood t n r ≡ stood b p (stood t n s)
pass t n b p r s e = ap (stood t n) e ∙ swap t n b p s

cross : (t b : Bool) (p : ℕ) (r s : Trail) → r ≡ stood b p s → crossing t r ≡ stood b p (crossing t s)
cross t b p r s e = ap (crossing t) e ∙ crossing_stood t b p s

module _ (x : ℕ) (b : Bool) (p : ℕ) where
  pub sparse_stood : (ls : List Label) (c : NodesT ℕ) (j w : Bool) (n : ℕ) (r : Trail) → sparse x ls c j w n (stood b p r) ≡ stood b p (sparse x ls c j w n r)
  sparse_stood ls Stop j w n r = refl
  sparse_stood ls (Do o c) j w n r = pass (is_target (Do o c) x) n b p _ _ (pass (is_used (Do o c) x) n b p _ _ (sparse_stood ls c j w (suc n) r))
  sparse_stood ls (Call t f args c) j w n r = pass (is_target (Call t f args c) x) n b p _ _ (pass (is_used (Call t f args c) x) n b p _ _ (cross (is_live x ls c j && not (is_among (maybe t) x)) b p _ _ (sparse_stood ls c j w (suc n) r)))
  sparse_stood ls (Choose q a d c) j w n r =
      let k = is_live x ls c j in
      let m = suc (places a + (places d + n)) in
      let rc = sparse x ls c j w m r in
      let rd = sparse x ls d k false (suc (places a + n)) rc in
      let ec = sparse_stood ls c j w m r in
      let ed = ap (sparse x ls d k false (suc (places a + n))) ec ∙ sparse_stood ls d k false (suc (places a + n)) rc in
      let ea = ap (sparse x ls a k false (suc n)) ed ∙ sparse_stood ls a k false (suc n) rd in
      pass (is_used (Choose q a d c) x) n b p _ _ (pass (ceases (is_live x ls (Choose q a d c) j) k (follows c || w)) m b p _ _ ea)
  sparse_stood ls (Block d c) j w n r =
      let k = is_live x ls c j in
      let m = suc (places d + n) in
      let rc = sparse x ls c j w m r in
      let ed = ap (sparse x (label false k ∷ ls) d k false (suc n)) (sparse_stood ls c j w m r) ∙ sparse_stood (label false k ∷ ls) d k false (suc n) rc in
      pass (ceases (is_live x ls (Block d c) j) k (follows c || w)) m b p _ _ ed
  sparse_stood ls (Loop d c) j w n r =
      let k = is_live x ls c j in
      let h = is_live x ls (Loop d c) j in
      let m = suc (places d + n) in
      let rc = sparse x ls c j w m r in
      let ed = ap (sparse x (label h k ∷ ls) d k false (suc n)) (sparse_stood ls c j w m r) ∙ sparse_stood (label h k ∷ ls) d k false (suc n) rc in
      pass (ceases h k (follows c || w)) m b p _ _ ed
  sparse_stood ls (Leave i c) j w n r = pass (ceases (is_live x ls (Leave i c) j) (is_live x ls c j) (follows c || w)) (suc n) b p _ _ (sparse_stood ls c j w (suc n) r)
  sparse_stood ls (Again i c) j w n r = pass (is_live x ls (Again i c) j && not (is_live x ls c j)) n b p _ _ (pass (ceases (is_live x ls (Again i c) j) (is_live x ls c j) (follows c || w)) (suc n) b p _ _ (sparse_stood ls c j w (suc n) r))
  sparse_stood ls (Return q c) j w n r = pass (is_used (Return q c) x) n b p _ _ (pass (ceases (is_live x ls (Return q c) j) (is_live x ls c j) (follows c || w)) (suc n) b p _ _ (sparse_stood ls c j w (suc n) r))

  pub trailed_stood : (ls : List Label) (c : NodesT ℕ) (j : Bool) (n : ℕ) (r : Trail) → trailed x ls c j n (stood b p r) ≡ stood b p (trailed x ls c j n r)
  trailed_stood ls Stop j n r = refl
  trailed_stood ls (Do o c) j n r = pass (is_target (Do o c) x) n b p _ _ (pass (is_live x ls (Do o c) j) n b p _ _ (trailed_stood ls c j (suc n) r))
  trailed_stood ls (Call t f args c) j n r = pass (is_target (Call t f args c) x) n b p _ _ (pass (is_live x ls (Call t f args c) j) n b p _ _ (cross (is_live x ls c j && not (is_among (maybe t) x)) b p _ _ (trailed_stood ls c j (suc n) r)))
  trailed_stood ls (Choose q a d c) j n r =
      let k = is_live x ls c j in
      let m = suc (places a + (places d + n)) in
      let rc = trailed x ls c j m r in
      let rd = trailed x ls d k (suc (places a + n)) rc in
      let ed = ap (trailed x ls d k (suc (places a + n))) (trailed_stood ls c j m r) ∙ trailed_stood ls d k (suc (places a + n)) rc in
      let ea = ap (trailed x ls a k (suc n)) ed ∙ trailed_stood ls a k (suc n) rd in
      pass (is_live x ls (Choose q a d c) j) n b p _ _ ea
  trailed_stood ls (Block d c) j n r =
      let k = is_live x ls c j in
      let m = suc (places d + n) in
      let rc = trailed x ls c j m r in
      pass (is_live x ls (Block d c) j) n b p _ _ (ap (trailed x (label false k ∷ ls) d k (suc n)) (trailed_stood ls c j m r) ∙ trailed_stood (label false k ∷ ls) d k (suc n) rc)
  trailed_stood ls (Loop d c) j n r =
      let k = is_live x ls c j in
      let h = is_live x ls (Loop d c) j in
      let m = suc (places d + n) in
      let rc = trailed x ls c j m r in
      pass h n b p _ _ (ap (trailed x (label h k ∷ ls) d k (suc n)) (trailed_stood ls c j m r) ∙ trailed_stood (label h k ∷ ls) d k (suc n) rc)
  trailed_stood ls (Leave i c) j n r = pass (is_live x ls (Leave i c) j) n b p _ _ (trailed_stood ls c j (suc n) r)
  trailed_stood ls (Again i c) j n r = pass (is_live x ls (Again i c) j) n b p _ _ (trailed_stood ls c j (suc n) r)
  trailed_stood ls (Return q c) j n r = pass (is_live x ls (Return q c) j) n b p _ _ (trailed_stood ls c j (suc n) r)

-- a range goes on reaching
module _ (x q : ℕ) where
  pub sparse_reach : (ls : List Label) (c : NodesT ℕ) (j w : Bool) (n : ℕ) (r : Trail) → Reach r q → Reach (sparse x ls c j w n r) q
  sparse_reach ls Stop j w n r h = h
  sparse_reach ls (Do o c) j w n r h = stood_reach (is_target (Do o c) x) n _ q (stood_reach (is_used (Do o c) x) n _ q (sparse_reach ls c j w (suc n) r h))
  sparse_reach ls (Call t f args c) j w n r h = stood_reach (is_target (Call t f args c) x) n _ q (stood_reach (is_used (Call t f args c) x) n _ q (sparse_reach ls c j w (suc n) r h))
  sparse_reach ls (Choose p a d c) j w n r h =
      let k = is_live x ls c j in
      stood_reach (is_used (Choose p a d c) x) n _ q (stood_reach (ceases (is_live x ls (Choose p a d c) j) k (follows c || w)) (suc (places a + (places d + n))) _ q (sparse_reach ls a k false (suc n) _ (sparse_reach ls d k false (suc (places a + n)) _ (sparse_reach ls c j w (suc (places a + (places d + n))) r h))))
  sparse_reach ls (Block d c) j w n r h =
      let k = is_live x ls c j in
      stood_reach (ceases (is_live x ls (Block d c) j) k (follows c || w)) (suc (places d + n)) _ q (sparse_reach (label false k ∷ ls) d k false (suc n) _ (sparse_reach ls c j w (suc (places d + n)) r h))
  sparse_reach ls (Loop d c) j w n r h =
      let k = is_live x ls c j in
      stood_reach (ceases (is_live x ls (Loop d c) j) k (follows c || w)) (suc (places d + n)) _ q (sparse_reach (label (is_live x ls (Loop d c) j) k ∷ ls) d k false (suc n) _ (sparse_reach ls c j w (suc (places d + n)) r h))
  sparse_reach ls (Leave i c) j w n r h = stood_reach (ceases (is_live x ls (Leave i c) j) (is_live x ls c j) (follows c || w)) (suc n) _ q (sparse_reach ls c j w (suc n) r h)
  sparse_reach ls (Again i c) j w n r h = stood_reach (is_live x ls (Again i c) j && not (is_live x ls c j)) n _ q (stood_reach (ceases (is_live x ls (Again i c) j) (is_live x ls c j) (follows c || w)) (suc n) _ q (sparse_reach ls c j w (suc n) r h))
  sparse_reach ls (Return p c) j w n r h = stood_reach (is_used (Return p c) x) n _ q (stood_reach (ceases (is_live x ls (Return p c) j) (is_live x ls c j) (follows c || w)) (suc n) _ q (sparse_reach ls c j w (suc n) r h))
