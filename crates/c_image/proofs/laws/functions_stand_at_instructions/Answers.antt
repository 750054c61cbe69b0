use Rattle.c_image.proofs.Ordered.{image_rows}
use Rattle.c_image.proofs.laws.functions_stand_at_instructions.Goals as goal

pub returns : goal.returns
returns c = image_rows
