use Rattle.std.proofs.Common.{inl, inr, ◌∷◌, length, arith, refl}
use Rattle.port_history.specs.Past.{Told}
use Rattle.gpu_state.specs.Settings.{selected_texture, selected_region}
use Rattle.gpu_state.specs.Stand.{SettingsStand}
use Rattle.gpu_state.proofs.Standing.{stands_command, stands_setting, stands_region, region_in_range}
use Rattle.gpu_state.proofs.gpu.Gpu.tell.Goals.{in_default-via-then-port-lt524, in_default-via-else-port-lt524+else-port-lt530}
use Rattle.gpu_state.proofs.gpu.Gpu.tell.Goals as goal

pub returns-in-512 : goal.returns-in-512
returns-in-512 c = record {
  told = λ textures past h. rw c.in-512.is (stands_command textures past c.args.self.now c.command.new.self c.args.word h c.command.ensures.done c.command.ensures.kept);
}

pub returns-in-524-to-529 : goal.returns-in-524-to-529
returns-in-524-to-529 c = record {
  told = λ textures past h.
      let k = c.set_region.ensures in
      let s = h.settings_are in
      rw k.kept (stands_region textures past c.args.self.now c.set_region.new.self.regions c.args.port c.args.word (omega arith) h k.len k.others
      (λ a some e. k.selected a (length textures) (selected_texture (length textures) past) (selected_region past) past some refl refl
      (λ b f. h.regions_are (selected_texture (length textures) past) (selected_region past) b (region_in_range past) (rw (← s.texture_is, ← s.region_is) f)) e));
}

pub returns-in_default : goal.returns-in_default
returns-in_default c = record {
  told = λ textures past h.
      let k = c.set.ensures in
      let t = h.textures_are in
      let s : SettingsStand (length textures) (Told c.args.port c.args.word ∷ past) c.set.new.self.settings =
      rw (← t) (k.settings past (rw t h.settings_are)) in
      elim c.in_default.branch [
        | in_default-via-then-port-lt524 w ↦
            rw k.kept (stands_setting textures past c.args.self.now c.set.new.self.settings c.args.port c.args.word (omega arith) (inl (omega arith)) h s)
        | in_default-via-else-port-lt524+else-port-lt530 w ↦
            rw k.kept (stands_setting textures past c.args.self.now c.set.new.self.settings c.args.port c.args.word (omega arith) (inr (omega arith)) h s)
      ];
}
