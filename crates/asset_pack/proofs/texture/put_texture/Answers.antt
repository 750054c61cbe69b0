use Rattle.std.specs.Prelude.{OnErr}
use Rattle.std.proofs.Common.{◌≡◌, List, ℕ, [], ◌∷◌, ◌++◌, codes, subst}
use Rattle.asset_pack.specs.Words.{words_text, AddsFront}
use Rattle.asset_pack.specs.Texts.{texture_text}
use Rattle.asset_pack.proofs.texture.put_texture.Goals as goal

-- src/texture.rt:124:1
pub returns-clause-refused : goal.returns-clause-refused
unfolding texture_text
returns-clause-refused c =
    subst (λ (text : List ℕ). OnErr c.put_file.result (AddsFront c.args.out.now.items text c.put_file.new.out.items))
    (λ i. codes "V32-VTEX" ++ (words_text (c.width.ensures.width i ∷ c.height.ensures.height i ∷ []) ++ words_text (c.pixels.ensures.pixels i)))
    c.put_file.ensures.refused
