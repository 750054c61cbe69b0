use Rattle.std.proofs.Common.{◌∙◌, ℕ, List, ap, length, subst}
use Rattle.std.specs.Prelude.{IfOk, Vec}
use Rattle.std.proofs.lemmas.Result.{IfOk-weaker}
use Rattle.std.specs.declared.alloc.Global.{Global}
use Rattle.asset_pack.specs.Texts.{Image}
use Rattle.c_check.specs.View.{program}
use Rattle.c_image.specs.Imaging.{IsImageOf, image}
use Rattle.build_core.proofs.Projects.{title_is_text, textures_are_texts, sounds_are_texts}
use Rattle.build_core.proofs.Refusals.{memory_comes, textures_come, sounds_come, packed_comes, packing_causes}
use Rattle.build_core.proofs.Builds.{memory_alone, memory_told, textures_told, sounds_told, packed_told, packed_mid, mid_told}
use Rattle.build_core.specs.Due.{assets}
use Rattle.build_core.specs.inner.Packing.{IsPackedFrom}
use Rattle.build_core.specs.declared.building.Built.{Built}
use Rattle.build_core.specs.Reached.{IsReadBeside}
use Rattle.build_core.proofs.AsmTexts.{text_reads}
use Rattle.build_core.proofs.Failing.{packed_fails, project_fails, sounds_fail, textures_fail}
use Rattle.build_core.proofs.building.build_from.Goals as goal

-- a project of its grammar is refused for want of memory alone

pub returns-in-Err-clause-told : goal.returns-in-Err-clause-told
returns-in-Err-clause-told g c =
    memory_told c.args.project.now c.requires.grammar.0 c.requires.grammar.1 c.args.checked.now c.in-Err.refusal (g.F.Reads.held c.args.files.now) (memory_alone c.args.project.now c.requires.grammar c.in-Err.refusal c.in-Err.ensures.told c.in-Err.ensures.content)

pub returns-in-Err-clause-kinds : goal.returns-in-Err-clause-kinds
returns-in-Err-clause-kinds g c =
    memory_comes c.args.project.now c.in-Err.refusal (memory_alone c.args.project.now c.requires.grammar c.in-Err.refusal c.in-Err.ensures.told c.in-Err.ensures.content)

pub returns-in-Err-clause-reached : goal.returns-in-Err-clause-reached
returns-in-Err-clause-reached g c = project_fails c.args.project.now Built (λ m. IsReadBeside m c.args.project.now) (g.F.Reads.held c.args.files.now) c.in-Err.refusal c.in-Err.ensures.content

-- textures

pub read_assets-requires : goal.read_assets-requires
read_assets-requires g c = rw c.as_slice.ensures (textures_are_texts c.args.project.now c.in-Ok.parts c.in-Ok.ensures.found)

pub returns-in-Err-read_assets-clause-told : goal.returns-in-Err-read_assets-clause-told
returns-in-Err-read_assets-clause-told g c =
    textures_told c.args.project.now c.in-Ok.parts c.in-Ok.ensures.found c.args.checked.now c.in-Err-read_assets.refusal c.as_slice.result.now (g.F.Reads.held c.args.files.now) c.as_slice.ensures c.in-Err-read_assets.ensures.told

pub returns-in-Err-read_assets-clause-kinds : goal.returns-in-Err-read_assets-clause-kinds
returns-in-Err-read_assets-clause-kinds g c =
    textures_come c.args.project.now c.in-Ok.parts c.in-Ok.ensures.found c.as_slice.result.now c.as_slice.ensures c.in-Err-read_assets.refusal c.in-Err-read_assets.ensures.kinds

pub returns-in-Err-read_assets-clause-reached : goal.returns-in-Err-read_assets-clause-reached
returns-in-Err-read_assets-clause-reached g c =
    textures_fail c.args.project.now c.in-Ok.parts c.in-Ok.ensures.found (Vec Image Global) Built (g.F.Reads.held c.args.files.now) c.as_slice.result.now c.as_slice.ensures c.in-Err-read_assets.refusal c.in-Err-read_assets.ensures.reached

-- sounds

pub read_assets-requires-2 : goal.read_assets-requires-2
read_assets-requires-2 g c = rw c.as_slice-2.ensures (sounds_are_texts c.args.project.now c.in-Ok.parts c.in-Ok.ensures.found)

pub returns-in-Err-read_assets-2-clause-told : goal.returns-in-Err-read_assets-2-clause-told
returns-in-Err-read_assets-2-clause-told g c =
    sounds_told c.args.project.now c.in-Ok.parts c.in-Ok.ensures.found c.args.checked.now c.in-Ok-read_assets.textures.items c.in-Err-read_assets-2.refusal c.as_slice.result.now c.as_slice-2.result.now
    (g.F.Reads.held c.args.files.now) (g.F.Reads.held c.read_assets.new.files) c.as_slice.ensures c.as_slice-2.ensures c.in-Ok-read_assets.ensures.told c.in-Ok-read_assets.ensures.held c.in-Err-read_assets-2.ensures.told

pub returns-in-Err-read_assets-2-clause-kinds : goal.returns-in-Err-read_assets-2-clause-kinds
returns-in-Err-read_assets-2-clause-kinds g c =
    sounds_come c.args.project.now c.in-Ok.parts c.in-Ok.ensures.found c.as_slice-2.result.now c.as_slice-2.ensures c.in-Err-read_assets-2.refusal c.in-Err-read_assets-2.ensures.kinds

pub returns-in-Err-read_assets-2-clause-reached : goal.returns-in-Err-read_assets-2-clause-reached
returns-in-Err-read_assets-2-clause-reached g c =
    sounds_fail c.args.project.now c.in-Ok.parts c.in-Ok.ensures.found (Vec (List ℕ) Global) Built c.in-Ok-read_assets.textures.items (g.F.Reads.held c.args.files.now) (g.F.Reads.held c.read_assets.new.files)
    c.as_slice.result.now c.as_slice-2.result.now c.as_slice.ensures c.as_slice-2.ensures c.in-Err-read_assets-2.refusal c.in-Ok-read_assets.ensures.told c.in-Ok-read_assets.ensures.held c.in-Err-read_assets-2.ensures.reached

-- packed

pub packed-requires-clause-title : goal.packed-requires-clause-title
packed-requires-clause-title g c = title_is_text c.args.project.now c.in-Ok.parts c.in-Ok.ensures.found

pub returns-clause-told : goal.returns-clause-told
returns-clause-told g c =
    let source = c.args.checked.now in
    let made : IsImageOf (program source.program) source.places source.starts.items (image c.in-Ok-image_of.made) =
    subst (λ starts. IsImageOf (program source.program) source.places starts (image c.in-Ok-image_of.made)) c.deref.ensures.value c.in-Ok-image_of.ensures.image in
    packed_told c.args.project.now c.in-Ok.parts c.in-Ok.ensures.found source c.in-Ok-read_assets.textures.items c.in-Ok-read_assets-2.sounds.items (image c.in-Ok-image_of.made) made c.packed.result
    c.as_slice.result.now c.as_slice-2.result.now (g.F.Reads.held c.args.files.now) (g.F.Reads.held c.read_assets.new.files)
    c.as_slice.ensures c.as_slice-2.ensures c.in-Ok-read_assets.ensures.told c.in-Ok-read_assets.ensures.held c.in-Ok-read_assets-2.ensures.told
    (subst (λ tokens. IfOk c.packed.result (IsPackedFrom c.in-Ok.parts.title (image c.in-Ok-image_of.made) (assets c.in-Ok-read_assets.textures.items c.in-Ok-read_assets-2.sounds.items) tokens)) c.token_count-tokens.ensures c.packed.ensures.packed)
    c.packed.ensures.kinds

pub returns-clause-mid : goal.returns-clause-mid
returns-clause-mid g c =
    let source = c.args.checked.now in
    let i = image c.in-Ok-image_of.made in
    let made : IsImageOf (program source.program) source.places source.starts.items i =
    subst (λ starts. IsImageOf (program source.program) source.places starts i) c.deref.ensures.value c.in-Ok-image_of.ensures.image in
    mid_told c.args.project.now c.in-Ok.parts c.in-Ok.ensures.found source c.in-Ok-read_assets.textures.items c.in-Ok-read_assets-2.sounds.items i made c.packed.result
    c.as_slice.result.now c.as_slice-2.result.now (g.F.Reads.held c.args.files.now) (g.F.Reads.held c.read_assets.new.files)
    c.as_slice.ensures c.as_slice-2.ensures c.in-Ok-read_assets.ensures.told c.in-Ok-read_assets.ensures.held c.in-Ok-read_assets-2.ensures.told
    (subst (λ tokens. IfOk c.packed.result (IsPackedFrom c.in-Ok.parts.title i (assets c.in-Ok-read_assets.textures.items c.in-Ok-read_assets-2.sounds.items) tokens)) c.token_count-tokens.ensures c.packed.ensures.packed)
    (packed_mid (program source.program) i _ _ c.packed.result c.in-Ok-image_of.ensures.mid c.packed.ensures.mid c.packed.ensures.choices)

pub returns-clause-asm : goal.returns-clause-asm
returns-clause-asm g c =
    IfOk-weaker c.packed.result _ _ (text_reads _ _ _ (image c.in-Ok-image_of.made) c.in-Ok-image_of.ensures.image _ _ _) c.packed.ensures.packed

pub returns-clause-reached : goal.returns-clause-reached
returns-clause-reached g c = packed_fails c.args.project.now (g.F.Reads.held c.args.files.now) _ c.packed.result c.packed.ensures.kinds

pub returns-clause-kinds : goal.returns-clause-kinds
returns-clause-kinds g c = packed_comes c.args.project.now _ c.packed.result c.packed.ensures.kinds

pub returns-clause-causes : goal.returns-clause-causes
returns-clause-causes g c =
    let source = c.args.checked.now in
    let made : IsImageOf (program source.program) source.places source.starts.items (image c.in-Ok-image_of.made) =
    subst (λ starts. IsImageOf (program source.program) source.places starts (image c.in-Ok-image_of.made)) c.deref.ensures.value c.in-Ok-image_of.ensures.image in
    packing_causes c.args.project.now c.in-Ok.parts c.in-Ok.ensures.found (program source.program) source.places source.starts.items source.of_unit (image c.in-Ok-image_of.made) made
    c.in-Ok-read_assets.textures.items c.in-Ok-read_assets-2.sounds.items
    (c.in-Ok-read_assets.ensures.count ∙ ap length c.as_slice.ensures) (c.in-Ok-read_assets-2.ensures.count ∙ ap length c.as_slice-2.ensures) _ _ c.in-Ok-read_assets.textures c.in-Ok-read_assets-2.sounds c.packed.result _ _ _
    c.in-Ok-read_assets.ensures.causes c.in-Ok-read_assets-2.ensures.causes c.packed.ensures.kinds
